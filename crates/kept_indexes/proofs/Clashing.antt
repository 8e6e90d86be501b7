-- What an index says of a document that is to be put is what its definition says of the rows with the document.
use Rattle.std.proofs.Common.{◌≡◌, ℕ, List, [], ◌∷◌, Bool, true, false, not, refl, sym, ap, ◌∙◌, subst, Option, Some, None, inl, inr}
use Rattle.std.specs.Prelude.{◌⊎◌, ◌&&◌, ◌||◌, T, is_some, map as each, if◌then◌else◌}
use Rattle.std.specs.List.{list_any}
use Rattle.std.specs.FinMap as map
use Rattle.std.proofs.lemmas.Bool.{cases_Bool}
use Rattle.json_tree.specs.declared.tree.Tree.{Tree}
use Rattle.state_model.specs.Keys.{Key, key_cmp, same_key}
use Rattle.state_model.proofs.Keys.{key_is, key_refl, key_turn}
use Rattle.coll_state.specs.Rows.{Row, Table, row_of, Rising}
use Rattle.coll_state.specs.Changes.{put_row}
use Rattle.index_keys.specs.declared.plan.Plan.{Plan}
use Rattle.index_keys.specs.Definition.{plan_of}
use Rattle.index_keys.specs.Keys.{Fields, Docs, parallel}
use Rattle.index_keys.specs.Texts.{key_texts}
use Rattle.index_build.specs.Owned.{Owned, Holding, build, other_has, first_other, refusal_by, refusal}
use Rattle.index_build.specs.Owners.{Texts}
use Rattle.index_build.proofs.Apart.{none_is}
use Rattle.history_model.specs.Indexes.{IndexesOf}
use Rattle.history_model.specs.Refusals.{texts_in, meet, clashes, unique_clash, any_parallel, any_definition}
use Rattle.kept_indexes.specs.Kept.{paired, with_plan, plans_of, AreOver, IsKept}
use Rattle.kept_indexes.specs.Verdicts.{is_shared, is_parallel, some_shared, some_parallel}
use Rattle.kept_indexes.proofs.Entries.{sorted_rest, find_here, find_later, found_entry}
use Rattle.kept_indexes.proofs.Owned.{row_texts, built_get}
use Rattle.kept_indexes.proofs.Tests.{or_both, or_true, same_truth, meet_turn}
use Rattle.command_refusals.proofs.Shared.{or_false, any_none, some_where}

-- ---- tests of rows

-- a row that stands under a key passes a test only if one of the rows does
row_passes : (q : Row → Bool) (rs : List Row) (j : Key) (r : Row) → row_of rs j ≡ Some r → q r ≡ true → list_any q rs ≡ true
row_passes q [] j r e h = cc
row_passes q (x ∷ rs) j r e h = by (cases_Bool (same_key j x.key)) (λ g. row_passes q rs j r g h)
  where
    by : (same_key j x.key ≡ true) ⊎ (same_key j x.key ≡ false) → (row_of rs j ≡ Some r → list_any q rs ≡ true) → (q x || list_any q rs) ≡ true
    by (inl t) later =
        let is : x ≡ r = (let g : Some x ≡ Some r = sym (ap (λ b. if b then Some x else row_of rs j) t) ∙ e in cc) in
        ap (λ b. b || list_any q rs) (ap q is ∙ h)
    by (inr t) later = ap (λ b. q x || b) (later (sym (ap (λ b. if b then Some x else row_of rs j) t) ∙ e)) ∙ or_true (q x)

no_row : {A : Type 0} (r : Row) → None ≡ Some r → A
no_row r e = cc

-- a row that passes a test stands under its key
found_row : (q : Row → Bool) (rs : List Row) (low : ℕ) → Rising low rs → list_any q rs ≡ true → (r : Row) × (row_of rs r.key ≡ Some r) × (q r ≡ true)
found_row q [] low up e = cc
found_row q (x ∷ rs) low up e = by (cases_Bool (q x)) (λ f. found_row q rs x.no up.2 f)
  where
    further : (r : Row) → row_of rs r.key ≡ Some r → (same_key r.key x.key ≡ true) ⊎ (same_key r.key x.key ≡ false) → row_of (x ∷ rs) r.key ≡ Some r
    further r f (inl t) = no_row r (sym up.1 ∙ (ap (row_of rs) (sym (key_is r.key x.key t)) ∙ f))
    further r f (inr t) = rw t f

    by : (q x ≡ true) ⊎ (q x ≡ false) → (list_any q rs ≡ true → (r : Row) × (row_of rs r.key ≡ Some r) × (q r ≡ true)) → (r : Row) × (row_of (x ∷ rs) r.key ≡ Some r) × (q r ≡ true)
    by (inl t) later = (x, ap (λ b. if b then Some x else row_of rs x.key) (key_refl x.key), t)
    by (inr t) later = let l = later (sym (ap (λ b. b || list_any q rs) t) ∙ e) in (l.0, further l.0 l.1 (cases_Bool (same_key l.0.key x.key)), l.2)

-- where no row passes a test, only the one that is put may
any_put : (q : Fields → Bool) (next : ℕ) (k : Key) (d : Fields) (rs : List Row) → list_any (λ (r : Row). q r.document) rs ≡ false → list_any (λ (r : Row). q r.document) (put_row next k d rs) ≡ q d
any_put q next k d [] h = or_false (q d)
any_put q next k d (r ∷ rs) h = by (same_key k r.key) (or_both (q r.document) (list_any (λ (r : Row). q r.document) rs) h) (λ g. any_put q next k d rs g)
  where
    by : (b : Bool) → (q r.document ≡ false) × (list_any (λ (r : Row). q r.document) rs ≡ false) → (list_any (λ (r : Row). q r.document) rs ≡ false → list_any (λ (r : Row). q r.document) (put_row next k d rs) ≡ q d) →
        list_any (λ (r : Row). q r.document) (if b then record { no = r.no; key = r.key; document = d } ∷ rs else r ∷ put_row next k d rs) ≡ q d
    by true g rest = ap (λ (b : Bool). q d || b) g.1 ∙ or_false (q d)
    by false g rest = ap (λ (b : Bool). b || list_any (λ (r : Row). q r.document) (put_row next k d rs)) g.0 ∙ rest g.1

-- a row of another key that passes a test
abbrev other_passes : Key → (Row → Bool) → Row → Bool
other_passes k q r = not (same_key r.key k) && q r

-- where no row is of the key
all_others : (k : Key) (q : Row → Bool) (rs : List Row) → row_of rs k ≡ None → list_any (other_passes k q) rs ≡ list_any q rs
all_others k q [] e = refl
all_others k q (r ∷ rs) e = by (cases_Bool (same_key k r.key)) (λ g. all_others k q rs g)
  where
    no_none : {A : Type 0} → Some r ≡ None → A
    no_none f = cc

    by : (same_key k r.key ≡ true) ⊎ (same_key k r.key ≡ false) → (row_of rs k ≡ None → list_any (other_passes k q) rs ≡ list_any q rs) → list_any (other_passes k q) (r ∷ rs) ≡ (q r || list_any q rs)
    by (inl t) later = no_none (sym (ap (λ b. if b then Some r else row_of rs k) t) ∙ e)
    by (inr t) later =
        let off = key_turn k r.key false t in
        let rest = later (sym (ap (λ b. if b then Some r else row_of rs k) t) ∙ e) in
        λ i. (not (off i) && q r) || rest i

-- ---- rows of which no two have a key in common

-- the texts of a document
abbrev texts : Plan → Fields → Texts
texts p d = elim (is_some (parallel p d)) as (λ b. List (List ℕ)) [ true ↦ [] | false ↦ key_texts p d ]

abbrev meets_row : Plan → Texts → Row → Bool
meets_row p ts r = meet ts (texts_in p r)

-- with one more only that one may have a key of another
clash_put : (p : Plan) (next : ℕ) (k : Key) (d : Fields) (rs : List Row) (low : ℕ) → Rising low rs → clashes p rs ≡ false → clashes p (put_row next k d rs) ≡ list_any (other_passes k (meets_row p (texts p d))) rs
clash_put p next k d [] low up h = refl
clash_put p next k d (r ∷ rs) low up h = by (cases_Bool (same_key k r.key)) (λ g. clash_put p next k d rs r.no up.2 g)
  where
    none : (list_any (meets_row p (texts_in p r)) rs ≡ false) × (clashes p rs ≡ false)
    none = or_both (list_any (meets_row p (texts_in p r)) rs) (clashes p rs) h

    by : (same_key k r.key ≡ true) ⊎ (same_key k r.key ≡ false) → (clashes p rs ≡ false → clashes p (put_row next k d rs) ≡ list_any (other_passes k (meets_row p (texts p d))) rs) →
        clashes p (if same_key k r.key then record { no = r.no; key = r.key; document = d } ∷ rs else r ∷ put_row next k d rs) ≡ ((not (same_key r.key k) && meet (texts p d) (texts_in p r)) || list_any (other_passes k (meets_row p (texts p d))) rs)
    by (inl t) later =
        let on = key_turn k r.key true t in
        let gone : row_of rs k ≡ None = ap (row_of rs) (key_is k r.key t) ∙ up.1 in
        ap (λ b. clashes p (if b then record { no = r.no; key = r.key; document = d } ∷ rs else r ∷ put_row next k d rs)) t
        ∙ (ap (λ b. list_any (meets_row p (texts p d)) rs || b) none.1
        ∙ (or_false (list_any (meets_row p (texts p d)) rs)
        ∙ (sym (all_others k (meets_row p (texts p d)) rs gone)
        ∙ ap (λ b. (not b && meet (texts p d) (texts_in p r)) || list_any (other_passes k (meets_row p (texts p d))) rs) (sym on))))
    by (inr t) later =
        let off = key_turn k r.key false t in
        let one = any_put (λ (e : Fields). meet (texts_in p r) (texts p e)) next k d rs none.0 ∙ meet_turn (texts_in p r) (texts p d) in
        let rest = later none.1 in
        ap (λ b. clashes p (if b then record { no = r.no; key = r.key; document = d } ∷ rs else r ∷ put_row next k d rs)) t
        ∙ ((λ i. one i || rest i) ∙ ap (λ b. (not b && meet (texts p d) (texts_in p r)) || list_any (other_passes k (meets_row p (texts p d))) rs) (sym off))

-- ---- what an index over rows has of others

texts_are : (p : Plan) (d : Fields) → is_some (parallel p d) ≡ false → texts p d ≡ key_texts p d
texts_are p d e = ap (λ (b : Bool). elim b as (λ b. List (List ℕ)) [ true ↦ [] | false ↦ key_texts p d ]) e

no_texts : (p : Plan) (d : Fields) → is_some (parallel p d) ≡ true → texts p d ≡ []
no_texts p d e = ap (λ (b : Bool). elim b as (λ b. List (List ℕ)) [ true ↦ [] | false ↦ key_texts p d ]) e

abbrev is_parallel_row : Plan → Row → Bool
is_parallel_row p r = is_some (parallel p r.document)

clash : {A : Type 0} (b : Bool) → b ≡ true → b ≡ false → A
clash b t f = cc

row_apart : (p : Plan) (rs : List Row) (j : Key) (r : Row) → list_any (is_parallel_row p) rs ≡ false → row_of rs j ≡ Some r → texts_in p r ≡ key_texts p r.document
row_apart p rs j r none e = texts_are p r.document (by (cases_Bool (is_parallel_row p r)))
  where
    by : (is_parallel_row p r ≡ true) ⊎ (is_parallel_row p r ≡ false) → is_parallel_row p r ≡ false
    by (inl t) = clash (list_any (is_parallel_row p) rs) (row_passes (is_parallel_row p) rs j r e t) none
    by (inr f) = f

-- a row stands under its own key
row_key : (rs : List Row) (j : Key) (r : Row) → row_of rs j ≡ Some r → r.key ≡ j
row_key [] j r e = cc
row_key (x ∷ rs) j r e = by (cases_Bool (same_key j x.key)) (λ f. row_key rs j r f)
  where
    by : (same_key j x.key ≡ true) ⊎ (same_key j x.key ≡ false) → (row_of rs j ≡ Some r → r.key ≡ j) → r.key ≡ j
    by (inl t) later = (let g : Some x ≡ Some r = sym (ap (λ b. if b then Some x else row_of rs j) t) ∙ e in let is : x ≡ r = cc in sym (ap (λ (z : Row). z.key) is) ∙ sym (key_is j x.key t))
    by (inr t) later = later (sym (ap (λ b. if b then Some x else row_of rs j) t) ∙ e)

-- the row whose keys are told
row_told : (p : Plan) (o : Option Row) (us : Texts) → row_texts p o ≡ Some us → (r : Row) × (o ≡ Some r) × (key_texts p r.document ≡ us)
row_told p None us e = cc
row_told p (Some r) us e = (r, refl, same (key_texts p r.document) e)
  where
    same : (ts : Texts) → Some ts ≡ Some us → ts ≡ us
    same ts f = cc

abbrev over_rows : Plan → List Row → List (Key × Texts)
over_rows p rs = map.entries (build p (paired rs))

others_have : (p : Plan) (rs : List Row) (low : ℕ) (k : Key) (ts : Texts) → Rising low rs → list_any (is_parallel_row p) rs ≡ false → is_some (first_other k ts (build p (paired rs))) ≡ list_any (other_passes k (meets_row p ts)) rs
others_have p rs low k ts up none = same_truth (is_some (first_other k ts (build p (paired rs)))) (list_any (other_passes k (meets_row p ts)) rs) over under
  where
    found : (j : Key) → map.find key_cmp j (over_rows p rs) ≡ row_texts p (row_of rs j)
    found j = sym (map.get-entries (build p (paired rs)) j) ∙ built_get p rs low j up

    over : is_some (first_other k ts (build p (paired rs))) ≡ true → list_any (other_passes k (meets_row p ts)) rs ≡ true
    over h =
        let x = found_entry (other_has k ts) (over_rows p rs) (map.entries_sorted (build p (paired rs))) (sym (some_where (other_has k ts) (over_rows p rs)) ∙ h) in
        let r = row_told p (row_of rs x.0.0) x.0.1 (sym (found x.0.0) ∙ x.1) in
        let key = row_key rs x.0.0 r.0 r.1 in
        let has = row_apart p rs x.0.0 r.0 none r.1 ∙ r.2 in
        row_passes (other_passes k (meets_row p ts)) rs x.0.0 r.0 r.1 ((λ i. not (same_key (key i) k) && meet ts (has i)) ∙ x.2)

    under : list_any (other_passes k (meets_row p ts)) rs ≡ true → is_some (first_other k ts (build p (paired rs))) ≡ true
    under h = by (first_other k ts (build p (paired rs))) refl
      where
        by : (o : Option (Key × Texts)) → first_other k ts (build p (paired rs)) ≡ o → is_some o ≡ true
        by (Some x) e = refl
        by None e =
            let r = found_row (other_passes k (meets_row p ts)) rs low up h in
            let has = row_apart p rs r.0.key r.0 none r.1 in
            let no = none_is (other_has k ts) (over_rows p rs) r.0.key (key_texts p r.0.document) e (found r.0.key ∙ ap (row_texts p) r.1) in
            clash (other_has k ts (r.0.key, key_texts p r.0.document)) ((λ i. not (same_key r.0.key k) && meet ts (sym has i)) ∙ r.2) no

-- ---- one index

parallel_by : (b unique : Bool) (o : Option (Key × Texts)) → is_parallel (refusal_by b unique o) ≡ b
parallel_by true unique o = refl
parallel_by false true (Some e) = refl
parallel_by false true None = refl
parallel_by false false o = refl

shared_by : (b unique c : Bool) (o : Option (Key × Texts)) → (unique ≡ true → b ≡ true → c ≡ false) → (unique ≡ true → b ≡ false → c ≡ is_some o) → (unique && c) ≡ is_shared (refusal_by b unique o)
shared_by true true c o f g = f refl refl
shared_by true false c o f g = refl
shared_by false true c None f g = g refl refl
shared_by false true c (Some e) f g = g refl refl
shared_by false false c o f g = refl

pub one_parallel : (p : Plan) (rs : List Row) (k : Key) (d : Fields) → any_parallel rs (Some p) ≡ false → any_parallel (put_row 0 k d rs) (Some p) ≡ is_parallel (refusal p k d (build p (paired rs)))
one_parallel p rs k d none = any_put (λ (e : Fields). is_some (parallel p e)) 0 k d rs none ∙ sym (parallel_by (is_some (parallel p d)) p.unique (first_other k (key_texts p d) (build p (paired rs))))

pub one_shared : (p : Plan) (rs : List Row) (low : ℕ) (k : Key) (d : Fields) → Rising low rs → unique_clash rs (Some p) ≡ false → any_parallel rs (Some p) ≡ false → unique_clash (put_row 0 k d rs) (Some p) ≡ is_shared (refusal p k d (build p (paired rs)))
one_shared p rs low k d up apart none = shared_by (is_some (parallel p d)) p.unique (clashes p (put_row 0 k d rs)) (first_other k (key_texts p d) (build p (paired rs))) without with
  where
    put : p.unique ≡ true → clashes p (put_row 0 k d rs) ≡ list_any (other_passes k (meets_row p (texts p d))) rs
    put u = clash_put p 0 k d rs low up (sym (ap (λ b. b && clashes p rs) u) ∙ apart)

    none_meets : (r : Row) → other_passes k (meets_row p []) r ≡ false
    none_meets r = by (not (same_key r.key k))
      where
        by : (b : Bool) → (b && false) ≡ false
        by true = refl
        by false = refl

    without : p.unique ≡ true → is_some (parallel p d) ≡ true → clashes p (put_row 0 k d rs) ≡ false
    without u e = put u ∙ (ap (λ (ts : Texts). list_any (other_passes k (meets_row p ts)) rs) (no_texts p d e) ∙ any_none (other_passes k (meets_row p [])) none_meets rs)

    with : p.unique ≡ true → is_some (parallel p d) ≡ false → clashes p (put_row 0 k d rs) ≡ is_some (first_other k (key_texts p d) (build p (paired rs)))
    with u e = put u ∙ (ap (λ (ts : Texts). list_any (other_passes k (meets_row p ts)) rs) (texts_are p d e) ∙ sym (others_have p rs low k (key_texts p d) up none))

-- ---- all indexes of a collection

over_any : (f : Plan → Owned → Bool) (ds : Docs) (hs : List Holding) (ps : List Plan) → AreOver ds hs ps → list_any (λ (h : Holding). f h.plan h.owned) hs ≡ list_any (λ (p : Plan). f p (build p ds)) ps
over_any f ds [] [] over = refl
over_any f ds [] (p ∷ ps) over = absurd over
over_any f ds (h ∷ hs) [] over = absurd over
over_any f ds (h ∷ hs) (p ∷ ps) over = λ i. f (over.0 i) (over.1 i) || over_any f ds hs ps over.2 i

-- a definition that isn't built passes no test
plans_any : (f : Plan → Bool) (test : Option Plan → Bool) → test None ≡ false → (es : List (Key × Tree)) → T (map.is_sorted key_cmp es) →
    ((i : Key) (x : Tree) → map.find key_cmp i es ≡ Some x → (p : Plan) → plan_of x ≡ Some p → f p ≡ test (Some p)) → list_any f (plans_of (each (λ (e : Key × Tree). e.1) es)) ≡ list_any (λ (e : Key × Tree). test (plan_of e.1)) es
plans_any f test none [] s all = refl
plans_any f test none (e ∷ es) s all = by (plan_of e.1) refl (plans_any f test none es (sorted_rest e es s) (λ i x g. all i x (find_later e es i x s g)))
  where
    by : (o : Option Plan) → plan_of e.1 ≡ o → list_any f (plans_of (each (λ (e : Key × Tree). e.1) es)) ≡ list_any (λ (e : Key × Tree). test (plan_of e.1)) es →
        list_any f (with_plan o (plans_of (each (λ (e : Key × Tree). e.1) es))) ≡ (test o || list_any (λ (e : Key × Tree). test (plan_of e.1)) es)
    by None is rest = rest ∙ ap (λ b. b || list_any (λ (e : Key × Tree). test (plan_of e.1)) es) (sym none)
    by (Some p) is rest = λ i. all e.0 e.1 (find_here e es) p is i || rest i

-- of what holds of each definition, as the entry of its name
plan_holds : (t : Table) → IndexesOf t → (i : Key) (x : Tree) → map.find key_cmp i (map.entries t.indexes) ≡ Some x → (p : Plan) → plan_of x ≡ Some p → (unique_clash t.rows (Some p) ≡ false) × (any_parallel t.rows (Some p) ≡ false)
plan_holds t hold i x f p e = subst (λ (o : Option Plan). (unique_clash t.rows o ≡ false) × (any_parallel t.rows o ≡ false)) e (hold i x (map.get-entries t.indexes i ∙ f))

pub all_shared : (t : Table) (hs : List Holding) (k : Key) (d : Fields) → IsKept t hs → some_shared hs k d ≡ any_definition unique_clash (Some (put_row 0 k d t.rows)) (map.entries t.indexes)
all_shared t hs k d kept =
    over_any (λ p m. is_shared (refusal p k d m)) (paired t.rows) hs (plans_of (map.values t.indexes)) kept.over
    ∙ plans_any (λ p. is_shared (refusal p k d (build p (paired t.rows)))) (unique_clash (put_row 0 k d t.rows)) refl (map.entries t.indexes) (map.entries_sorted t.indexes)
    (λ i x f p e. let h = plan_holds t kept.hold i x f p e in sym (one_shared p t.rows 0 k d kept.rising h.0 h.1))

pub all_parallel : (t : Table) (hs : List Holding) (k : Key) (d : Fields) → IsKept t hs → some_parallel hs k d ≡ any_definition any_parallel (Some (put_row 0 k d t.rows)) (map.entries t.indexes)
all_parallel t hs k d kept =
    over_any (λ p m. is_parallel (refusal p k d m)) (paired t.rows) hs (plans_of (map.values t.indexes)) kept.over
    ∙ plans_any (λ p. is_parallel (refusal p k d (build p (paired t.rows)))) (any_parallel (put_row 0 k d t.rows)) refl (map.entries t.indexes) (map.entries_sorted t.indexes)
    (λ i x f p e. let h = plan_holds t kept.hold i x f p e in sym (one_parallel p t.rows k d h.1))
