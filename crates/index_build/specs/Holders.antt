-- Who has the keys of a unique index: those that came last, before those that stand in the order of the keys.
use Rattle.std.specs.Prelude.{ℕ, zero, suc, ◌≡◌, List, [], ◌∷◌, map as each, Bool, true, false, Option, Some, None, option_map, if◌then◌else◌, refl}
use Rattle.std.specs.Coded.{Coded, code_by, coded×, coded_ℕ, coded_list}
use Rattle.std.specs.Ordering.{is_lt}
use Rattle.std.specs.FinMap as map
use Rattle.state_model.specs.Keys.{Key, key_cmp, same_key}
use Rattle.coll_state.specs.Codes.{bytes_code}
use Rattle.coll_state.specs.Stock.{Rise, beside}
use Rattle.sorted_list.specs.Order.{found}
use Rattle.index_keys.specs.declared.plan.Plan.{Plan}
use Rattle.index_build.specs.declared.entry.Entry.{Entry}
use Rattle.index_build.specs.declared.holder.Holder.{Holder}
use Rattle.index_build.specs.Entries.{entry_key, owned_in, keys_of, IsUnder}
use Rattle.index_build.specs.Faults.{or_else}
use Rattle.index_build.specs.Owned.{Owned}
use Rattle.index_build.specs.Owners.{Texts, has}

abbrev pub holder_key : Holder → Key
holder_key h = h.key

abbrev pub holder_code : Coded Holder
holder_code = code_by (Key × Key) (coded× bytes_code bytes_code) (λ h. (h.key, h.id)) (λ p. record { key = p.0; id = p.1 }) (λ _. refl)

-- the newest holders, and how many more can be put without taking memory
pub record NewestHolders : Type 0 where
  pub items : List Holder
  pub room : ℕ

abbrev pub newest_code : Coded NewestHolders
newest_code = code_by (List Holder × ℕ) (coded× (coded_list holder_code) coded_ℕ) (λ n. (n.items, n.room)) (λ p. record { items = p.0; room = p.1 }) (λ _. refl)

abbrev pub id_in : Option Holder → Option Key
id_in o = option_map (λ (h : Holder). h.id) o

-- the first of these that has a key
abbrev pub found_key : Key → List Holder → Option Holder
found_key t hs = found (beside key_cmp holder_key t) hs

abbrev pub holder_of : List Holder → List Holder → Key → Option Key
holder_of recent settled t = id_in (or_else (found_key t recent) (found_key t settled))

-- a document with its keys
abbrev pub held_by : Key → Texts → List Holder
held_by k ts = each (λ t. record { key = t; id = k }) ts

-- ---- the holders of what is in an index

abbrev pub is_held_by : Key → Option Key → Bool
is_held_by k None = false
is_held_by k (Some j) = same_key j k

abbrev pub has_in : Key → Option Texts → Bool
has_in t None = false
has_in t (Some ts) = has t ts

-- each key has its holder, and nobody else has it
abbrev pub AreHolders : (Key → Option Key) → Owned → Type 0
AreHolders holder m = (t k : Key) → is_held_by k (holder t) ≡ has_in t (map.get m k)

-- of two keys the one that comes first
abbrev pub lesser_key : Option Key → Option Key → Option Key
lesser_key None o = o
lesser_key (Some a) None = Some a
lesser_key (Some a) (Some b) = if is_lt (key_cmp b a) then Some b else Some a

abbrev pub but_for : Key → Option Key → Option Key
but_for k None = None
but_for k (Some j) = if same_key j k then None else Some j

-- the first of a key and the other holders of these
abbrev pub least_from : Key → (Key → Option Key) → Option Key → Texts → Option Key
least_from k holder o [] = o
least_from k holder o (t ∷ ts) = least_from k holder (lesser_key o (but_for k (holder t))) ts

abbrev pub least_other : Key → (Key → Option Key) → Texts → Option Key
least_other k holder ts = least_from k holder None ts

-- the keys of a document that is taken out have no holder
abbrev pub released : Option Texts → (Key → Option Key) → Key → Option Key
released None holder t = holder t
released (Some ts) holder t = if has t ts then None else holder t

-- ---- what an index keeps

pub record AreKept (plan : Plan) (es : List Entry) (recent settled : List Holder) : Type 0 where
  pub rise : Rise key_cmp entry_key es
  pub held : Rise key_cmp holder_key settled
  pub holders : plan.unique ≡ true → AreHolders (holder_of recent settled) (owned_in es)

-- one more than the number of keys that a document may have that comes in
abbrev pub spare_in : ℕ → ℕ → ℕ
spare_in zero n = 0
spare_in (suc m) n = suc n

abbrev pub texts_of : Option Texts → Texts
texts_of None = []
texts_of (Some ts) = ts

-- an entry is ready for its key, and where the index is unique so are the holders of its keys
pub record IsReady (k : Key) (unique : Bool) (e : Option Entry) (hs : List Holder) : Type 0 where
  pub under : IsUnder k e
  pub holders : unique ≡ true → hs ≡ held_by k (texts_of (keys_of e))
