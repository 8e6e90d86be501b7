-- What a name that may be made is.
use Rattle.std.proofs.Common.{◌≡◌, ℕ, zero, suc, ◌<◌, ◌≤◌, Bool, true, false, not, List, [], ◌∷◌, ◌++◌, length, refl, ap, ◌∙◌, subst, arith}
use Rattle.std.specs.Prelude.{codes, bytes_eq, Contains, nat_lt, nat_le, ◌==◌, ◌&&◌, ◌||◌}
use Rattle.std.specs.List.{list_any, list_all}
use Rattle.std.proofs.lemmas.Bool.{and_parts, or_parts}
use Rattle.std.proofs.lemmas.Grind.{common_steps}
use Rattle.bson_value.specs.declared.namespace.NsName.{NsName}
use Rattle.bson_value.specs.Namespace.{dot}
use Rattle.entry_model.specs.Writable.{IsCollection, IsDatabase}
use Rattle.history_model.specs.Documents.{is_between, is_word, is_dot, is_reserved, is_database_name, is_collection_name, is_bad_name, begins, ends_with_dot}
use Rattle.history_model.specs.Entries.{database}
use Rattle.recorded_entries.specs.Good.{IsGoodName, IsGoodDatabase}
use Rattle.recorded_entries.proofs.Definitions.{is_false as not_true, at_most as above}
use Rattle.update_model.proofs.SameValues.{number}

both_true : (a b : Bool) → not (a && b) ≡ false → (a ≡ true) × (b ≡ true)
both_true true true e = (refl, refl)
both_true true false e = cc
both_true false b e = cc

parts_of : (n : NsName) → IsGoodName n → (is_database_name n.db ≡ true) × (is_collection_name n.coll ≡ true)
unfolding is_bad_name
parts_of n e = both_true (is_database_name n.db) (is_collection_name n.coll) e

between : (low high c : ℕ) → is_between low high c ≡ true → (low ≤ c) × (c ≤ high)
between low high c e = let p = and_parts (nat_le low c) (nat_le c high) e in (above low c p.0, above c high p.1)

below_so : (a b : ℕ) → a < b → nat_lt a b ≡ true
below_so a b l = grind (arith, common_steps)

either_true : (a b : Bool) → (a || b) ≡ true → (P : Type 0) → (a ≡ true → P) → (b ≡ true → P) → P
either_true true b e P f g = f refl
either_true false b e P f g = g e

word_small : (c : ℕ) → is_word c ≡ true → c < 128
word_small c e =
    either_true (is_between 48 57 c || is_between 65 90 c) (is_between 97 122 c || ((c == 95) || (c == 45))) e (c < 128)
    (λ f. either_true (is_between 48 57 c) (is_between 65 90 c) f (c < 128) (λ g. omega (arith, between 48 57 c g)) (λ g. omega (arith, between 65 90 c g)))
    (λ f. either_true (is_between 97 122 c) ((c == 95) || (c == 45)) f (c < 128) (λ g. omega (arith, between 97 122 c g))
    (λ g. either_true (c == 95) (c == 45) g (c < 128) (λ h. omega (arith, number c 95 h)) (λ h. omega (arith, number c 45 h))))

letter_small : (c : ℕ) → (is_word c || is_dot c) ≡ true → c < 128
letter_small c e = either_true (is_word c) (is_dot c) e (c < 128) (λ f. word_small c f) (λ f. omega (arith, number c 46 f))

word_no_dot : (c : ℕ) → is_word c ≡ true → c ≡ 46 → ⊥
word_no_dot c e q = let f : is_word 46 ≡ true = subst (λ (z : ℕ). is_word z ≡ true) q e in cc

all_small : (p : ℕ → Bool) (t : List ℕ) → ((c : ℕ) → p c ≡ true → c < 128) → list_all p t ≡ true → list_all (λ b. nat_lt b 128) t ≡ true
all_small p [] h e = refl
all_small p (c ∷ t) h e =
    let a = and_parts (p c) (list_all p t) e in
    let k : nat_lt c 128 ≡ true = below_so c 128 (h c a.0) in
    let r = all_small p t h a.1 in
    ap (λ (b : Bool). b && list_all (λ b. nat_lt b 128) t) k ∙ r

no_dot : (t : List ℕ) → list_all is_word t ≡ true → Contains t dot → ⊥
no_dot [] e c = omega (arith, c.1)
no_dot (x ∷ t) e (zero, l, q) = word_no_dot x (and_parts (is_word x) (list_all is_word t) e).0 q
no_dot (x ∷ t) e (suc i, l, q) = no_dot t (and_parts (is_word x) (list_all is_word t) e).1 (i, omega (arith, l), q)

undotted : (t : List ℕ) → list_all is_word t ≡ true → list_any (λ b. b == dot) t ≡ false
undotted [] e = refl
undotted (x ∷ t) e = by (x == dot) refl (undotted t (and_parts (is_word x) (list_all is_word t) e).1)
  where
    by : (b : Bool) → (x == dot) ≡ b → list_any (λ b. b == dot) t ≡ false → (b || list_any (λ b. b == dot) t) ≡ false
    by true q r = absurd (word_no_dot x (and_parts (is_word x) (list_all is_word t) e).0 (number x dot q))
    by false q r = r

some_letter : (low high : ℕ) (t : List ℕ) → is_between (suc low) high (length t) ≡ true → t ≡ [] → ⊥
some_letter low high t e q = let k = between (suc low) high (length t) e in let l : length t ≡ 0 = ap length q in omega (arith, k, l)

-- below 128
abbrev pub AreSmall : List ℕ → Type 0
AreSmall t = list_all (λ b. nat_lt b 128) t ≡ true

pub small_append : (s t : List ℕ) → AreSmall s → AreSmall t → AreSmall (s ++ t)
small_append [] t a b = b
small_append (c ∷ s) t a b =
    let p = and_parts (nat_lt c 128) (list_all (λ b. nat_lt b 128) s) a in
    ap (λ (x : Bool). x && list_all (λ b. nat_lt b 128) (s ++ t)) p.0 ∙ small_append s t p.1 b

-- a database's name
pub record IsDatabaseName (db : List ℕ) : Type 0 where
  pub letters : AreSmall db
  pub short : length db ≤ 63
  pub some : db ≡ [] → ⊥
  pub dotless : Contains db dot → ⊥
  pub undotted : list_any (λ b. b == dot) db ≡ false
  pub other : bytes_eq db (codes "config") ≡ false

not_config : (db : List ℕ) → is_reserved db ≡ false → bytes_eq db (codes "config") ≡ false
not_config db e =
    let a = or_parts (bytes_eq db (codes "admin")) (bytes_eq db (codes "config") || (bytes_eq db (codes "local") || false)) e in
    (or_parts (bytes_eq db (codes "config")) (bytes_eq db (codes "local") || false) a.1).0

database_name : (db : List ℕ) → is_database_name db ≡ true → IsDatabaseName db
database_name db e =
    let a = and_parts (is_between 1 63 (length db)) (list_all is_word db && not (is_reserved db)) e in
    let b = and_parts (list_all is_word db) (not (is_reserved db)) a.1 in
    record {
      letters = all_small is_word db word_small b.0;
      short = (between 1 63 (length db) a.0).1;
      some = some_letter 0 63 db a.0;
      dotless = no_dot db b.0;
      undotted = undotted db b.0;
      other = not_config db (not_true (is_reserved db) b.1);
    }

pub record IsCollectionName (coll : List ℕ) : Type 0 where
  pub letters : AreSmall coll
  pub short : length coll ≤ 120
  pub some : coll ≡ [] → ⊥

collection_name : (t : List ℕ) → is_collection_name t ≡ true → IsCollectionName t
collection_name t e =
    let rest = not (begins (codes ".") t) && (not (ends_with_dot t) && not (begins (codes "system.") t)) in
    let a = and_parts (is_between 1 120 (length t)) (list_all (λ c. is_word c || is_dot c) t && rest) e in
    let b = and_parts (list_all (λ c. is_word c || is_dot c) t) rest a.1 in
    record {
      letters = all_small (λ c. is_word c || is_dot c) t letter_small b.0;
      short = (between 1 120 (length t) a.0).1;
      some = some_letter 0 120 t a.0;
    }

pub good_db : (n : NsName) → IsGoodName n → IsDatabaseName n.db
good_db n e = database_name n.db (parts_of n e).0

pub good_coll : (n : NsName) → IsGoodName n → IsCollectionName n.coll
good_coll n e = collection_name n.coll (parts_of n e).1

pub good_split : (n : NsName) → IsGoodName n → IsCollection n
good_split n e = let d = good_db n e in let c = good_coll n e in record { joined = refl; first_dot = d.dotless; some_db = d.some; some_coll = c.some }

pub good_config : (n : NsName) → IsGoodName n → bytes_eq n.db (codes "config") ≡ false
good_config n e = (good_db n e).other

pub db_of : (db : List ℕ) → IsGoodDatabase db → IsDatabaseName db
db_of db g = good_db (record { db = db; coll = g.0 }) g.1

-- a database alone
pub alone : (db : List ℕ) → IsDatabaseName db → IsDatabase (database db)
alone db d = (record { joined = refl; first_dot = d.dotless; some_db = d.some; some_coll = λ e. cc }, refl)

pub admin_alone : IsDatabase (database (codes "admin"))
admin_alone = (record { joined = refl; first_dot = no_dot (codes "admin") refl; some_db = λ e. cc; some_coll = λ e. cc }, refl)
