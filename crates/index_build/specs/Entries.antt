-- The entries of an index, as the code has them.
use Rattle.std.specs.Prelude.{ℕ, suc, ◌≡◌, List, [], ◌∷◌, length, Bool, false, Option, Some, None, option_map, refl}
use Rattle.std.specs.Coded.{Coded, code_by, coded×, coded_bool, coded_list, coded_option}
use Rattle.std.specs.FinMap as map
use Rattle.state_model.specs.Keys.{Key}
use Rattle.coll_state.specs.Codes.{bytes_code}
use Rattle.index_build.specs.declared.entry.Entry.{Entry}
use Rattle.index_build.specs.Owned.{Owned, Refusal, refusal_by, first_other}
use Rattle.index_build.specs.Owners.{Texts}

abbrev pub entry_key : Entry → Key
entry_key e = e.key

abbrev pub owned_of : List Entry → List (Key × Texts)
owned_of [] = []
owned_of (e ∷ es) = (e.key, e.keys) ∷ owned_of es

abbrev pub owned_in : List Entry → Owned
owned_in es = map.from_entries (owned_of es)

-- what a swap puts in the place of what the _id had, or nothing, in an index that is unique or not
pub record Exchange : Type 0 where
  pub key : Key
  pub unique : Bool
  pub keys : Option Texts

abbrev pub exchange_code : Coded Exchange
exchange_code = code_by (Key × (Bool × Option Texts)) (coded× bytes_code (coded× coded_bool (coded_option (coded_list bytes_code))))
    (λ x. (x.key, (x.unique, x.keys))) (λ p. record { key = p.0; unique = p.1.0; keys = p.1.1 }) (λ _. refl)

abbrev pub keys_of : Option Entry → Option Texts
keys_of o = option_map (λ (e : Entry). e.keys) o

-- an entry under its key
abbrev pub IsUnder : Key → Option Entry → Type 0
IsUnder k None = Unit {0}
IsUnder k (Some e) = e.key ≡ k

abbrev pub put_or_removed : Key → Option Texts → Owned → Owned
put_or_removed k None m = map.remove m k
put_or_removed k (Some ts) m = map.insert m k ts

-- what is in after an exchange
abbrev pub exchanged : Exchange → Owned → Owned
exchanged x m = put_or_removed x.key x.keys m

abbrev pub key_count : Option Texts → ℕ
key_count None = 0
key_count (Some ts) = length ts

-- how much room there must be: one more than the number of keys
abbrev pub room_for : Option Texts → ℕ
room_for None = 0
room_for (Some ts) = suc (length ts)

-- another document has one of the keys, where the index is unique
abbrev pub keys_refusal : Key → Bool → Option Texts → Owned → Option Refusal
keys_refusal k unique None m = None
keys_refusal k unique (Some ts) m = refusal_by false unique (first_other k ts m)

abbrev pub exchange_refusal : Exchange → Owned → Option Refusal
exchange_refusal x m = keys_refusal x.key x.unique x.keys m
