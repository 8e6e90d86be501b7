-- Each namespace of an archive ends once.
use Rattle.std.proofs.Common.{◌≡◌, ◌≢◌, ℕ, suc, ◌+◌, ◌≤◌, List, [], ◌∷◌, ◌++◌, length, Bool, true, false, refl, sym, ap, ◌∙◌, subst, arith, map as each, Option, Some, None}
use Rattle.std.specs.Prelude.{⊤, ◌||◌, is_some}
use Rattle.std.specs.List.{list_any}
use Rattle.std.specs.FinMap as map
use Rattle.bson_value.specs.declared.namespace.NsName.{NsName}
use Rattle.state_model.specs.Keys.{same_ns}
use Rattle.state_model.proofs.Keys.{ns_is}
use Rattle.state_model.specs.States.{State}
use Rattle.coll_state.specs.Rows.{Table, Rows, state_of}
use Rattle.coll_state.proofs.Links.{collection_in, get_collection}
use Rattle.archive_content.proofs.Seats.{ns_refl}
use Rattle.archive_content.specs.Pieces.{Piece, Block, End, is_end, has_ended}
use Rattle.history_model.specs.Entries.{entry_bytes}
use Rattle.history_model.specs.Runs.{Step, Documents, Entries}
use Rattle.dump_model.specs.Archives.{oplog, block_of, end_of, document_texts, pieces_of, all_pieces}
use Rattle.dump_steps.specs.Steps.{AreStepsOf, AllStand}
use Rattle.dump_steps.proofs.Pieces.{any_append}

abbrev pub ends_in : List Piece → ℕ
ends_in [] = 0
ends_in (Block n ds ∷ ps) = ends_in ps
ends_in (End n ∷ ps) = suc (ends_in ps)

abbrev one_unless : Bool → ℕ
one_unless true = 0
one_unless false = 1

-- how many of these have no end yet
abbrev open_in : List Piece → List NsName → ℕ
open_in before [] = 0
open_in before (n ∷ ns) = one_unless (has_ended n before) + open_in before ns

less_open : (a b : Bool) → one_unless (a || b) ≤ one_unless a
less_open true b = omega arith
less_open false true = omega arith
less_open false false = omega arith

still_open : (before : List Piece) (p : Piece) (ns : List NsName) → open_in (before ++ p ∷ []) ns ≤ open_in before ns
still_open before p [] = omega arith
still_open before p (n ∷ ns) = (let a = ap one_unless (any_append (is_end n) before (p ∷ [])) in omega (arith, a, less_open (has_ended n before) (has_ended n (p ∷ [])), still_open before p ns))

-- the end of one of them
one_ends : (before : List Piece) (n : NsName) (ns : List NsName) → list_any (same_ns n) ns ≡ true → has_ended n before ≡ false → open_in (before ++ End n ∷ []) ns + 1 ≤ open_in before ns
one_ends before n [] e h = absurd cc
one_ends before n (m ∷ ns) e h = by (same_ns n m) refl e (λ q. one_ends before n ns q h)
  where
    by : (b : Bool) → same_ns n m ≡ b → (b || list_any (same_ns n) ns) ≡ true → (list_any (same_ns n) ns ≡ true → open_in (before ++ End n ∷ []) ns + 1 ≤ open_in before ns) → open_in (before ++ End n ∷ []) (m ∷ ns) + 1 ≤ open_in before (m ∷ ns)
    by true s q rest =
        (let i = ns_is n m s in
        let own : has_ended n (End n ∷ []) ≡ true = ap (λ (b : Bool). b || false) (ns_refl n) in
        let now : has_ended n (before ++ End n ∷ []) ≡ true = any_append (is_end n) before (End n ∷ []) ∙ (λ j. h j || own j) in
        let a : one_unless (has_ended m (before ++ End n ∷ [])) ≡ 0 = ap one_unless (subst (λ (z : NsName). has_ended z (before ++ End n ∷ []) ≡ true) i now) in
        let b : one_unless (has_ended m before) ≡ 1 = ap one_unless (subst (λ (z : NsName). has_ended z before ≡ false) i h) in
        omega (arith, a, b, still_open before (End n) ns))
    by false s q rest = (let a = ap one_unless (any_append (is_end m) before (End n ∷ [])) in omega (arith, a, less_open (has_ended m before) (has_ended m (End n ∷ [])), rest q))

-- all ends are of these
abbrev pub EndsIn : List NsName → List Piece → Type 0
EndsIn ns [] = ⊤
EndsIn ns (Block n ds ∷ ps) = EndsIn ns ps
EndsIn ns (End n ∷ ps) = (list_any (same_ns n) ns ≡ true) × EndsIn ns ps

open_few : (before : List Piece) (ps : List Piece) (ns : List NsName) → AllStand before ps → EndsIn ns ps → ends_in ps ≤ open_in before ns
open_few before [] ns a h = omega arith
open_few before (Block n ds ∷ ps) ns a h = omega (arith, open_few (before ++ Block n ds ∷ []) ps ns a.1 h, still_open before (Block n ds) ns)
open_few before (End n ∷ ps) ns a h = omega (arith, open_few (before ++ End n ∷ []) ps ns a.1 h.1, one_ends before n ns h.0 a.0.1)

all_open : (ns : List NsName) → open_in [] ns ≡ length ns
all_open [] = refl
all_open (n ∷ ns) = omega (arith, all_open ns)

pub ends_few : (ps : List Piece) (ns : List NsName) → AllStand [] ps → EndsIn ns ps → ends_in ps ≤ length ns
ends_few ps ns a h = omega (arith, open_few [] ps ns a h, all_open ns)

ends_join : (ns : List NsName) (ps qs : List Piece) → EndsIn ns ps → EndsIn ns qs → EndsIn ns (ps ++ qs)
ends_join ns [] qs a b = b
ends_join ns (Block n ds ∷ ps) qs a b = ends_join ns ps qs a b
ends_join ns (End n ∷ ps) qs a b = (a.0, ends_join ns ps qs a.1 b)

block_ends : (ns : List NsName) (n : NsName) (ds : List (List ℕ)) (b : Bool) → list_any (same_ns n) ns ≡ true → EndsIn ns (block_of n ds ++ end_of n b)
block_ends ns n [] true h = (h, tt)
block_ends ns n [] false h = tt
block_ends ns n (d ∷ ds) true h = (h, tt)
block_ends ns n (d ∷ ds) false h = tt

some_is : (o : Option Table) → o ≢ None → is_some (collection_in o) ≡ true
some_is None h = absurd (h refl)
some_is (Some t) h = refl

or_right : (x y : Bool) → y ≡ true → (x || y) ≡ true
or_right true y e = refl
or_right false y e = e

-- the entries, and the collections of a state
abbrev pub names_of : State → List NsName
names_of s = oplog ∷ map.keys s

pub ends_are : (r : Rows) (ss : List Step) → AreStepsOf r ss → EndsIn (names_of (state_of r)) (all_pieces ss)
ends_are r [] h = tt
ends_are r (Documents n rs b ∷ ss) h =
    let ns = names_of (state_of r) in
    let keys = map.keys (state_of r) in
    let there : list_any (same_ns n) keys ≡ true = sym (map.contains_key-keys (state_of r) n) ∙ (ap is_some (get_collection r n) ∙ some_is (map.get r.tables n) h.0) in
    ends_join ns (pieces_of (Documents n rs b)) (all_pieces ss) (block_ends ns n (document_texts rs) b (or_right (same_ns n oplog) (list_any (same_ns n) keys) there)) (ends_are r ss h.3)
ends_are r (Entries es b ∷ ss) h = ends_join (names_of (state_of r)) (pieces_of (Entries es b)) (all_pieces ss) (block_ends (names_of (state_of r)) oplog (each entry_bytes es) b refl) (ends_are r ss h)
