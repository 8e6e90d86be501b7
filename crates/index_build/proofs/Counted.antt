-- What was counted, and which fault was met, document by document.
use Rattle.std.proofs.Common.{◌≡◌, ℕ, zero, suc, ◌+◌, ◌<◌, List, [], ◌∷◌, ◌++◌, length, map, get_or, take, Bool, true, false, refl, sym, ap, ◌∙◌, subst, arith, Option, Some, None}
use Rattle.std.specs.Prelude.{option_map, is_some, if◌then◌else◌}
use Rattle.std.proofs.lemmas.List.{length-map, map-append, map_more}
use Rattle.bson_value.specs.declared.namespace.NsName.{NsName}
use Rattle.state_model.specs.Keys.{Key}
use Rattle.index_keys.specs.declared.plan.Plan.{Plan}
use Rattle.index_keys.specs.Keys.{Fields, parallel}
use Rattle.index_keys.specs.Texts.{key_texts}
use Rattle.index_build.specs.declared.fault.CountFault.{CountFault}
use Rattle.index_build.specs.declared.fault.CountFault.TheVariants as faults
use Rattle.index_build.specs.declared.owners.Repeats.{Repeats}
use Rattle.index_build.specs.Faults.{first_parallel, duplicate_if, parallel_fault, duplicate_fault, plan_fault, or_else, IsCountFault}
use Rattle.index_build.specs.Numbers.{pair_count}
use Rattle.index_build.specs.Owners.{Texts}
use Rattle.bson_view.specs.declared.held.Held.{Held}
use Rattle.bson_view.specs.Held.{held_document}
use Rattle.index_build.specs.Counting.{held}
use Rattle.index_build.specs.Repeated.{Follows, Watched, two_at, AreWithin, IsRepeat}
use Rattle.index_build.proofs.Places.{first_more}
use Rattle.index_build.proofs.Repeated.{repeat_is}

pub count_more : (plan : Plan) (ds : List Fields) (d : Fields) → pair_count plan (ds ++ d ∷ []) ≡ pair_count plan ds + length (key_texts plan d)
count_more plan [] d = omega arith
count_more plan (e ∷ ds) d = let h = count_more plan ds d in omega arith

pub apart_more : (plan : Plan) (ds : List Fields) (d : Fields) → first_parallel plan ds ≡ None → is_some (parallel plan d) ≡ false → first_parallel plan (ds ++ d ∷ []) ≡ None
apart_more plan ds d none is = first_more (λ e. is_some (parallel plan e)) ds d ∙ ((λ i. or_else (none i) (if is i then Some d else None)))

-- a fault of one document is that of the index, where the document is the first with parallel arrays
pub parallel_told : (e : CountFault) (n : NsName) (i : Key) (plan : Plan) (ds : List Fields) (d : Fields) → IsCountFault e (option_map (parallel_fault n i) (first_parallel plan (d ∷ []))) →
    (is_some (parallel plan d) ≡ true → first_parallel plan ds ≡ Some d) → IsCountFault e (plan_fault n i plan ds)
parallel_told e n i plan ds d is first = by (is_some (parallel plan d)) refl e is
  where
    rest : Option CountFault
    rest = option_map (duplicate_fault n i) (duplicate_if plan.unique plan ds)

    none_told : (e : CountFault) → None ≡ Some e → ⊥
    none_told e h = cc

    by : (b : Bool) → is_some (parallel plan d) ≡ b → (e : CountFault) → IsCountFault e (option_map (parallel_fault n i) (if b then Some d else None)) → IsCountFault e (plan_fault n i plan ds)
    by b s faults.NoMemory h = tt
    by true s (faults.Parallel m j a) h = ap (λ (o : Option Fields). or_else (option_map (parallel_fault n i) o) (option_map (duplicate_fault n i) (duplicate_if plan.unique plan ds))) (first s) ∙ h
    by true s (faults.Duplicate m j a b) h = ap (λ (o : Option Fields). or_else (option_map (parallel_fault n i) o) (option_map (duplicate_fault n i) (duplicate_if plan.unique plan ds))) (first s) ∙ h
    by false s (faults.Parallel m j a) h = absurd (none_told _ h)
    by false s (faults.Duplicate m j a b) h = absurd (none_told _ h)

-- ---- at the end

pub told : (plan : Plan) (r : Repeats) (ds : List Fields) → Watched plan r ds → IsRepeat plan r.first ds
told plan r ds w = by plan.unique refl
  where
    by : (b : Bool) → plan.unique ≡ b → IsRepeat plan r.first ds
    by true u =
        let f = w.unique u in
        let linked = repeat_is (key_texts plan) [] ds in
        record {
          is = ap (λ (b : Bool). duplicate_if b plan ds) u ∙ (linked.0 ∙ ap (option_map (two_at ds)) (sym f.first_is));
          within = subst (AreWithin (length ds)) (sym f.first_is) linked.1;
        }
    by false u = record {
      is = ap (λ (b : Bool). duplicate_if b plan ds) u ∙ ap (option_map (two_at ds)) (sym (w.other u));
      within = subst (AreWithin (length ds)) (sym (w.other u)) tt;
    }

pub none_told : (n : NsName) (i : Key) (plan : Plan) (places : Option (ℕ × ℕ)) (ds : List Fields) → first_parallel plan ds ≡ None → IsRepeat plan places ds → places ≡ None → plan_fault n i plan ds ≡ None
none_told n i plan places ds apart t none = λ j. or_else (option_map (parallel_fault n i) (apart j)) (option_map (duplicate_fault n i) ((t.is ∙ ap (option_map (two_at ds)) none) j))

pub two_told : (n : NsName) (i : Key) (plan : Plan) (places : Option (ℕ × ℕ)) (a b : ℕ) (ds : List Fields) → first_parallel plan ds ≡ None → IsRepeat plan places ds → places ≡ Some (a, b) →
    plan_fault n i plan ds ≡ Some (duplicate_fault n i (two_at ds (a, b)))
two_told n i plan places a b ds apart t some = λ j. or_else (option_map (parallel_fault n i) (apart j)) (option_map (duplicate_fault n i) ((t.is ∙ ap (option_map (two_at ds)) some) j))

-- the fault that is told
pub is_told : (e f : CountFault) (o : Option CountFault) → e ≡ f → o ≡ Some f → IsCountFault e o
is_told faults.NoMemory f o e h = tt
is_told (faults.Parallel n i a) f o e h = h ∙ ap Some (sym e)
is_told (faults.Duplicate n i a b) f o e h = h ∙ ap Some (sym e)

pub within_both : (n a b : ℕ) (places : Option (ℕ × ℕ)) → places ≡ Some (a, b) → AreWithin n places → (a < n) × (b < n)
within_both n a b places e w = subst (AreWithin n) e w

-- one document more
pub watched_more : (plan : Plan) (r s : Repeats) (ds : List Fields) (ts : Texts) (d : Fields) → ts ≡ key_texts plan d → (plan.unique ≡ true → (lists : List Texts) → Follows r lists → length ds ≡ length lists → Follows s (lists ++ ts ∷ [])) →
    (plan.unique ≡ false → s.first ≡ r.first) → Watched plan r ds → Watched plan s (ds ++ d ∷ [])
watched_more plan r s ds ts d is add keep w = record {
  unique = λ u. subst (Follows s) (ap (λ t. map (key_texts plan) ds ++ t ∷ []) is ∙ sym (map-append (key_texts plan) ds (d ∷ []))) (add u (map (key_texts plan) ds) (w.unique u) (sym (length-map ds (key_texts plan))));
  other = λ u. keep u ∙ w.other u;
}

-- a document that is held, at its place
pub held_at : (hs : List Held) (i : ℕ) (h : Held) → i < length hs → h ≡ get_or hs i h → get_or (held hs) i [] ≡ held_document h
held_at [] i h lt e = absurd (omega arith)
held_at (x ∷ hs) zero h lt e = ap held_document (sym e)
held_at (x ∷ hs) (suc i) h lt e = held_at hs i h (omega arith) e

pub held_length : (hs : List Held) → length (held hs) ≡ length hs
held_length hs = length-map hs held_document

pub held_more : (hs : List Held) (i : ℕ) (h : Held) → i < length hs → h ≡ get_or hs i h → held (take (i + 1) hs) ≡ held (take i hs) ++ held_document h ∷ []
held_more hs i h lt e = map_more held_document hs i h lt ∙ ap (λ z. held (take i hs) ++ held_document z ∷ []) (sym e)

pub held_before : (hs : List Held) (i : ℕ) → i < length hs → i ≡ length (held (take i hs))
held_before [] i lt = absurd (omega arith)
held_before (h ∷ hs) zero lt = refl
held_before (h ∷ hs) (suc i) lt = ap suc (held_before hs i (omega arith))

-- the fault of the first of some is that of all
pub first_told : (e : CountFault) (o rest all : Option CountFault) → IsCountFault e o → or_else o rest ≡ all → IsCountFault e all
first_told faults.NoMemory o rest all h is = tt
first_told (faults.Parallel n i a) o rest all h is = sym is ∙ ap (λ o. or_else o rest) h
first_told (faults.Duplicate n i a b) o rest all h is = sym is ∙ ap (λ o. or_else o rest) h
