-- What holds of a store holds after each write.
use Rattle.std.proofs.Common.{◌≡◌, ℕ, ◌+◌, ◌*◌, ◌≤◌, ◌<◌, ◌^◌, List, arith, sym, ap, ◌∙◌, subst}
use Rattle.bson_value.specs.declared.namespace.NsName.{NsName}
use Rattle.coll_state.specs.Rows.{Rows}
use Rattle.store_log.specs.Logged.{Logged, logged}
use Rattle.copy_model.specs.Writes.{SingleWrite, Put, Remove, Create, DropColl, DropDb, AddIndex, DropIndex, change_rows}
use Rattle.coll_state.specs.Changes.{rename}
use Rattle.history_model.specs.Indexes.{IndexesHold}
use Rattle.store_core.specs.Stores.{Stored, IsSoundStore}
use Rattle.kept_indexes.specs.Kept.{KeptCollections, AreKept}
use Rattle.store_core.specs.Applying.{with_rename}
use Rattle.coll_state.specs.Changes.{no_rows}
use Rattle.history_model.proofs.IndexesHeld.{nothing_holds}
use Rattle.store_core.proofs.Good.{AreGood, good_from, good_keyed, good_short, nothing_good, IsGoodSingle, single_good, renamed_good}

pub good_of : {cs : KeptCollections} (r : Rows) (l : Logged) → IsSoundStore r l cs → AreGood r
good_of r l h = good_from r h.keyed h.short

-- rows with at most so many calls more, and as many entries
pub sound_after : {cs ds : KeptCollections} (r s : Rows) (l m : Logged) (n : ℕ) → IsSoundStore r l cs → AreGood s → IndexesHold s → s.count ≤ r.count + n * 2 ^ 64 → m.recorded ≡ l.recorded + n → m.recorded ≤ 4000000001 → AreKept ds s → IsSoundStore s m ds
sound_after r s l m n h g i c e b k =
    record {
      keyed = good_keyed s g;
      short = good_short s g;
      holds = i;
      counted = (let q = h.counted in omega (arith, q, c, e));
      recorded = b;
      kept = k;
    }

pub sound_first : (cs : KeptCollections) (r : Rows) (l : Logged) → r ≡ no_rows → l.recorded ≡ 0 → AreKept cs no_rows → IsSoundStore r l cs
sound_first cs r l e f k =
    subst (λ (z : Rows). IsSoundStore z l cs) (sym e)
    (record {
      keyed = good_keyed no_rows nothing_good;
      short = good_short no_rows nothing_good;
      holds = nothing_holds;
      counted = omega arith;
      recorded = omega (arith, f);
      kept = k;
    })

-- ---- what a write leaves

single_count : (w : SingleWrite) (r : Rows) → (change_rows w r).count ≤ r.count + 1
single_count (Put n k d) r = omega arith
single_count (Remove n k) r = omega arith
single_count (Create n o) r = omega arith
single_count (DropColl n) r = omega arith
single_count (DropDb d) r = omega arith
single_count (AddIndex n d) r = omega arith
single_count (DropIndex n i) r = omega arith

-- one write and its entry
pub sound_single : {cs ds : KeptCollections} (w : SingleWrite) (r s : Rows) (l m : Logged) (old : Stored) (bytes : List ℕ) → ◌≡◌ {A = Stored} (record { rows = r; log = l }) old → IsSoundStore r l cs → IsGoodSingle w → IndexesHold (change_rows w old.rows) →
    s ≡ change_rows w r → m ≡ logged bytes l → old.log.recorded < 4000000000 → AreKept ds s → IsSoundStore s m ds
sound_single w r s l m old bytes v h g i e f few kept =
    (let n = single_count w r in
    let here : l.recorded ≡ old.log.recorded = ap (λ (z : Stored). z.log.recorded) v in
    let more : m.recorded ≡ l.recorded + 1 = ap (λ (z : Logged). z.recorded) f in
    let good : AreGood s = subst AreGood (sym e) (single_good w r g (good_of r l h)) in
    let holds : IndexesHold s = subst IndexesHold (ap (λ (z : Stored). change_rows w z.rows) (sym v) ∙ sym e) i in
    let count : s.count ≡ (change_rows w r).count = ap (λ (z : Rows). z.count) e in
    sound_after r s l m 1 h good holds (omega (arith, n, count)) more (omega (arith, more, here, few)) kept)

-- a creation and a put, with an entry each
pub sound_two : {cs ds : KeptCollections} (a b : SingleWrite) (r s : Rows) (l m : Logged) (old : Stored) (first second : List ℕ) → ◌≡◌ {A = Stored} (record { rows = r; log = l }) old → IsSoundStore r l cs → IsGoodSingle a → IsGoodSingle b → IndexesHold (change_rows b (change_rows a old.rows)) →
    s ≡ change_rows b (change_rows a r) → m ≡ logged second (logged first l) → old.log.recorded < 4000000000 → AreKept ds s → IsSoundStore s m ds
sound_two a b r s l m old first second v h ga gb i e f few kept =
    (let n = single_count a r in
    let n2 = single_count b (change_rows a r) in
    let here : l.recorded ≡ old.log.recorded = ap (λ (z : Stored). z.log.recorded) v in
    let more : m.recorded ≡ l.recorded + 1 + 1 = ap (λ (z : Logged). z.recorded) f in
    let good : AreGood s = subst AreGood (sym e) (single_good b (change_rows a r) gb (single_good a r ga (good_of r l h))) in
    let holds : IndexesHold s = subst IndexesHold (ap (λ (z : Stored). change_rows b (change_rows a z.rows)) (sym v) ∙ sym e) i in
    let count : s.count ≡ (change_rows b (change_rows a r)).count = ap (λ (z : Rows). z.count) e in
    sound_after r s l m 2 h good holds (omega (arith, n, n2, count)) (omega (arith, more)) (omega (arith, more, here, few)) kept)

-- a rename
pub sound_rename : {cs ds : KeptCollections} (a b : NsName) (r s : Rows) (l m : Logged) (old : Stored) (bytes : List ℕ) → ◌≡◌ {A = Stored} (record { rows = r; log = l }) old → IsSoundStore r l cs → IndexesHold (rename a b old.rows) →
    s ≡ rename a b r → m ≡ with_rename (logged bytes l) → old.log.recorded < 4000000000 → AreKept ds s → IsSoundStore s m ds
sound_rename a b r s l m old bytes v h i e f few kept =
    (let here : l.recorded ≡ old.log.recorded = ap (λ (z : Stored). z.log.recorded) v in
    let more : m.recorded ≡ l.recorded + 1 = ap (λ (z : Logged). z.recorded) f in
    let good : AreGood s = subst AreGood (sym e) (renamed_good r a b (good_of r l h)) in
    let holds : IndexesHold s = subst IndexesHold (ap (λ (z : Stored). rename a b z.rows) (sym v) ∙ sym e) i in
    let count : s.count ≡ r.count + 1 = ap (λ (z : Rows). z.count) e in
    sound_after r s l m 1 h good holds (omega (arith, count)) more (omega (arith, more, here, few)) kept)

-- a write that isn't made
pub sound_same : {cs ds : KeptCollections} (r s : Rows) (l : Logged) → IsSoundStore r l cs → s ≡ r → AreKept ds r → IsSoundStore s l ds
sound_same {cs} {ds} r s l h e k =
    subst (λ (z : Rows). IsSoundStore z l ds) (sym e) (record { keyed = h.keyed; short = h.short; holds = h.holds; counted = h.counted; recorded = h.recorded; kept = k })
