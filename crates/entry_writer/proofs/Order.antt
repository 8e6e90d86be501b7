-- Parts by rising index, from behind.
use Rattle.std.proofs.Common.{◌≡◌, ℕ, List, [], ◌∷◌, ◌++◌, Bool, true, false, refl, sym, ap, subst, ◌∙◌, arith, append_assoc}
use Rattle.std.specs.Prelude.{Some, None, nat_lt, ◌||◌, if◌then◌else◌, cond, reverse}
use Rattle.std.specs.Map.{lookup}
use Rattle.std.specs.Ordering.{nat_cmp, is_eq, match_ordering}
use Rattle.std.specs.declared.cmp.Ordering.{Ordering}
use Rattle.std.specs.declared.cmp.Ordering.TheVariants.{Less, Equal, Greater}
use Rattle.std.specs.BTreeMap.{BTreeMap, get, is_at, insert_entry, Updates}
use Rattle.std.proofs.lemmas.Cmp.{ranked}
use Rattle.std.proofs.lemmas.List.{reverse-append}
use Rattle.std.proofs.lemmas.Grind.{common_steps}
use Rattle.doc_path.specs.declared.parts.Part.{Part}
use Rattle.doc_path.specs.declared.parts.Part.TheVariants.{Name as name, Index as index}
use Rattle.entry_model.specs.Edits.{same_part, is_before}
use Rattle.entry_model.specs.Written.{is_index}
use Rattle.entry_model.proofs.Lists.{one_part, own_part}
use Rattle.entry_writer.specs.declared.parts.PartEdits.{PartEdits}
use Rattle.entry_writer.specs.Groups.{Group, group_in, groups_in, among}
use Rattle.entry_writer.specs.Order.{put_rising, risen, parts_of, IsOnce, front_in, laid, IsNumbered, IsNamed, IsLaid}
use Rattle.entry_writer.proofs.Groups.{mapped-append}

abbrev Entry : Type 0
Entry = ℕ × PartEdits

-- ---- one after the other, from behind

abbrev pub all_put : List Group → List Group → List Group
all_put l [] = l
all_put l (g ∷ gs) = put_rising g (all_put l gs)

pub all_risen : (gs : List Group) → all_put [] gs ≡ risen gs
all_risen [] = refl
all_risen (g ∷ gs) = ap (put_rising g) (all_risen gs)

pub last_put : (gs : List Group) (g : Group) (l : List Group) → all_put l (gs ++ g ∷ []) ≡ all_put (put_rising g l) gs
last_put [] g l = refl
last_put (h ∷ gs) g l = ap (put_rising h) (last_put gs g l)

-- ---- what is behind, the last first

behind_more : (bs : List PartEdits) (g : PartEdits) → reverse (groups_in (bs ++ g ∷ [])) ≡ group_in g ∷ reverse (groups_in bs)
behind_more bs g = ap reverse (mapped-append group_in bs (g ∷ [])) ∙ reverse-append (groups_in bs) (group_in g ∷ [])

pub moved : (es : List Entry) (e : Entry) (bs : List PartEdits) → laid es (bs ++ e.1 ∷ []) ≡ laid (es ++ e ∷ []) bs
moved es e bs =
    ap (λ (l : List Group). front_in es ++ l) (behind_more bs e.1)
    ∙ (sym (append_assoc (front_in es) (group_in e.1 ∷ []) (reverse (groups_in bs)))
    ∙ ap (λ (l : List Group). l ++ reverse (groups_in bs)) (sym (mapped-append (λ (d : Entry). group_in d.1) es (e ∷ []))))

pub turned : (gs : List PartEdits) → groups_in (reverse gs) ≡ reverse (groups_in gs)
turned [] = refl
turned (g ∷ gs) =
    ap groups_in (reverse-append (g ∷ []) gs) ∙ (mapped-append group_in (reverse gs) (g ∷ [])
    ∙ (ap (λ (l : List Group). l ++ group_in g ∷ []) (turned gs) ∙ sym (reverse-append (group_in g ∷ []) (groups_in gs))))

-- ---- an index among the indexes in front

numbers : (m n : ℕ) (o : Ordering) → o ≡ nat_cmp m n → (o ≡ Less → nat_lt n m ≡ false) × (o ≡ Greater → nat_lt n m ≡ true) × (o ≡ Equal → m ≡ n)
numbers m n o e = (λ h. grind (arith, common_steps, ranked m n o e), λ h. grind (arith, common_steps, ranked m n o e), λ h. grind (arith, common_steps, ranked m n o e))

first_named : (g : Group) (gs : List Group) → IsNamed gs → g ∷ gs ≡ put_rising g gs
first_named g [] h = refl
first_named g (x ∷ gs) h = by x.0 h
  where
    by : (p : Part) → is_index p ≡ false → g ∷ (x ∷ gs) ≡ (if is_before p g.0 then x ∷ put_rising g gs else g ∷ (x ∷ gs))
    by (name k) e = sym (ap (λ (b : Bool). if b then x ∷ put_rising g gs else g ∷ (x ∷ gs)) (unnamed k g.0))
      where
        unnamed : (k : List ℕ) (q : Part) → is_before (name k) q ≡ false
        unnamed k (name j) = refl
        unnamed k (index m) = refl
    by (index n) e = cc

abbrev put_at : Ordering → ℕ → PartEdits → Entry → List Entry → List Entry
put_at o n g e es = match_ordering o ((n, g) ∷ e ∷ es) ((e.0, g) ∷ es) (e ∷ insert_entry nat_cmp es n g)

pub put_front : (es : List Entry) (n : ℕ) (g : PartEdits) (rest : List Group) → IsNumbered es → IsNamed rest → g.part.now ≡ index n → lookup (is_at (nat_cmp n)) es ≡ None →
    front_in (insert_entry nat_cmp es n g) ++ rest ≡ put_rising (group_in g) (front_in es ++ rest)
put_front [] n g rest h m p none = first_named (group_in g) rest m
put_front (e ∷ es) n g rest h m p none = by (nat_cmp n e.0) refl none (λ k. put_front es n g rest h.1 m p k)
  where
    before : is_before e.1.part.now g.part.now ≡ nat_lt e.0 n
    before = λ i. is_before (h.0 i) (p i)

    by : (o : Ordering) → o ≡ nat_cmp n e.0 → (if is_eq o then Some e.1 else lookup (is_at (nat_cmp n)) es) ≡ None →
        (lookup (is_at (nat_cmp n)) es ≡ None → front_in (insert_entry nat_cmp es n g) ++ rest ≡ put_rising (group_in g) (front_in es ++ rest)) →
        front_in (put_at o n g e es) ++ rest ≡ put_rising (group_in g) (front_in (e ∷ es) ++ rest)
    by Less k none ih =
        let b : is_before e.1.part.now g.part.now ≡ false = before ∙ (numbers n e.0 Less k).0 refl in
        sym (ap (λ (x : Bool). if x then group_in e.1 ∷ put_rising (group_in g) (front_in es ++ rest) else group_in g ∷ (group_in e.1 ∷ (front_in es ++ rest))) b)
    by Equal k none ih = cc
    by Greater k none ih =
        let b : is_before e.1.part.now g.part.now ≡ true = before ∙ (numbers n e.0 Greater k).1 refl in
        ap (λ (l : List Group). group_in e.1 ∷ l) (ih none)
        ∙ sym (ap (λ (x : Bool). if x then group_in e.1 ∷ put_rising (group_in g) (front_in es ++ rest) else group_in g ∷ (group_in e.1 ∷ (front_in es ++ rest))) b)

numbered_put : (es : List Entry) (n : ℕ) (g : PartEdits) → IsNumbered es → g.part.now ≡ index n → IsNumbered (insert_entry nat_cmp es n g)
numbered_put [] n g h p = (p, tt)
numbered_put (e ∷ es) n g h p = by (nat_cmp n e.0) refl (numbered_put es n g h.1 p)
  where
    by : (o : Ordering) → o ≡ nat_cmp n e.0 → IsNumbered (insert_entry nat_cmp es n g) → IsNumbered (put_at o n g e es)
    by Less k ih = (p, h)
    by Equal k ih = (p ∙ ap index ((numbers n e.0 Equal k).2 refl), h.1)
    by Greater k ih = (h.0, ih)

-- ---- those that are left

or_false : (a b : Bool) → (a || b) ≡ false → (a ≡ false) × (b ≡ false)
or_false true b h = cc
or_false false b h = (refl, h)

among_end : (ps : List Part) (p r : Part) → among r (ps ++ p ∷ []) ≡ (among r ps || same_part p r)
among_end [] p r = by (same_part p r)
  where
    by : (b : Bool) → (b || false) ≡ b
    by true = refl
    by false = refl
among_end (q ∷ ps) p r = ap (λ (b : Bool). same_part q r || b) (among_end ps p r) ∙ by (same_part q r) (among r ps) (same_part p r)
  where
    by : (a b d : Bool) → (a || (b || d)) ≡ ((a || b) || d)
    by true b d = refl
    by false b d = refl

once_end : (ps : List Part) (p : Part) → IsOnce (ps ++ p ∷ []) → IsOnce ps × (among p ps ≡ false)
once_end [] p h = (tt, refl)
once_end (q ∷ ps) p h =
    let rest = once_end ps p h.1 in
    let both = or_false (among q ps) (same_part p q) (sym (among_end ps p q) ∙ h.0) in
    ((both.0, rest.0), by (same_part q p) refl both.1 rest.1)
  where
    by : (b : Bool) → same_part q p ≡ b → same_part p q ≡ false → among p ps ≡ false → (b || among p ps) ≡ false
    by true e n h = let x : same_part p q ≡ true = ap (same_part p) (one_part q p e) ∙ own_part p in let y : true ≡ false = sym x ∙ n in cc
    by false e n h = h

pub left_one : (left : List Group) (g : Group) → parts_of (left ++ g ∷ []) ≡ parts_of left ++ g.0 ∷ []
left_one left g = mapped-append (λ (h : Group). h.0) left (g ∷ [])

module _ (m : BTreeMap ℕ PartEdits) (bs : List PartEdits) (left : List Group) (g : PartEdits) (laid_so : IsLaid m bs (left ++ group_in g ∷ [])) where
  ends : IsOnce (parts_of left) × (among g.part.now (parts_of left) ≡ false)
  ends = once_end (parts_of left) g.part.now (subst IsOnce (left_one left (group_in g)) laid_so.2)

  still_left : (n : ℕ) (b : Bool) → (among (index n) (parts_of left) || same_part g.part.now (index n)) ≡ true → get nat_cmp m n ≡ None
  still_left n b h = laid_so.3 n (ap (among (index n)) (left_one left (group_in g)) ∙ (among_end (parts_of left) g.part.now (index n) ∙ h))

  module _ (n : ℕ) (is : g.part.now ≡ index n) where
    absent : get nat_cmp m n ≡ None
    absent = still_left n true (ap (λ (b : Bool). among (index n) (parts_of left) || b) (ap (λ (p : Part). same_part p (index n)) is ∙ own_part (index n)) ∙ by (among (index n) (parts_of left)))
      where
        by : (a : Bool) → (a || true) ≡ true
        by true = refl
        by false = refl

    pub index_put : (new : BTreeMap ℕ PartEdits) → new.entries ≡ insert_entry nat_cmp m.entries n g → laid new.entries bs ≡ put_rising (group_in g) (laid m.entries bs)
    index_put new e = ap (λ (es : List Entry). laid es bs) e ∙ put_front m.entries n g (reverse (groups_in bs)) laid_so.0 laid_so.1 is absent

    pub index_laid : (new : BTreeMap ℕ PartEdits) → new.entries ≡ insert_entry nat_cmp m.entries n g → Updates nat_cmp m new n (Some g) → IsLaid new bs left
    index_laid new e u = (subst IsNumbered (sym e) (numbered_put m.entries n g laid_so.0 is), laid_so.1, ends.0, λ q h. u.0 q ∙ by q h (nat_cmp n q) refl)
      where
        by : (q : ℕ) → among (index q) (parts_of left) ≡ true → (o : Ordering) → o ≡ nat_cmp n q → cond (is_eq o) (Some g) (get nat_cmp m q) ≡ None
        by q h Less k = still_left q true (ap (λ (b : Bool). b || same_part g.part.now (index q)) h)
        by q h Equal k =
            let same : index q ≡ g.part.now = ap index (sym ((numbers n q Equal k).2 refl)) ∙ sym is in
            let x : among (index q) (parts_of left) ≡ false = ap (λ (p : Part). among p (parts_of left)) same ∙ ends.1 in
            let y : true ≡ false = sym h ∙ x in cc
        by q h Greater k = still_left q true (ap (λ (b : Bool). b || same_part g.part.now (index q)) h)

  module _ (k : List ℕ) (is : g.part.now ≡ name k) (now : BTreeMap ℕ PartEdits) (mid new : List PartEdits) (empty : now.entries ≡ []) (push : new ≡ mid ++ g ∷ []) where
    unnumbered : IsNumbered now.entries
    unnumbered = subst IsNumbered (sym empty) tt

    pushed : reverse (groups_in new) ≡ group_in g ∷ reverse (groups_in mid)
    pushed = ap (λ (l : List PartEdits). reverse (groups_in l)) push ∙ behind_more mid g

    pub name_put : laid [] mid ≡ laid m.entries bs → laid now.entries new ≡ put_rising (group_in g) (laid m.entries bs)
    name_put all =
        (λ i. front_in (empty i) ++ pushed i) ∙ (ap (λ (l : List Group). group_in g ∷ l) all ∙ by (laid m.entries bs))
      where
        unnamed : (p q : Part) → q ≡ name k → is_before p q ≡ false
        unnamed (name j) q e = ap (is_before (name j)) e
        unnamed (index n) q e = ap (is_before (index n)) e

        by : (l : List Group) → group_in g ∷ l ≡ put_rising (group_in g) l
        by [] = refl
        by (x ∷ l) = sym (ap (λ (b : Bool). if b then x ∷ put_rising (group_in g) l else group_in g ∷ (x ∷ l)) (unnamed x.0 g.part.now is))

    pub name_laid : IsLaid now new left
    name_laid = (unnumbered, subst IsNamed (sym pushed) (ap is_index is), ends.0, λ q h. ap (λ (es : List Entry). lookup (is_at (nat_cmp q)) es) empty)
