-- Runs of the grammar over a block, and over an end.
use Rattle.std.proofs.Common.{◌≡◌, ℕ, zero, suc, ◌+◌, List, [], ◌∷◌, ◌++◌, map, length, Bool, true, false, refl, sym, ap, ◌∙◌, subst, arith, Option, Some, None}
use Rattle.std.proofs.lemmas.Grind.{common_steps}
use Rattle.std.proofs.lemmas.Int.{of_z-to_z}
use Rattle.std.specs.Prelude.{ℤ, set, slice_get, ◌==◌}
use Rattle.std.specs.Int.{w64, cast_signed, cast_unsigned}
use Rattle.bson_value.specs.declared.namespace.NsName.{NsName}
use Rattle.archive_format.specs.declared.place.Place.{Place}
use Rattle.archive_format.specs.declared.place.Place.TheVariants.{Blocks, Inside, Ending}
use Rattle.archive_format.specs.Crc.{crc_on, crc_step, crc_end}
use Rattle.archive_format.specs.Shapes.{Head}
use Rattle.archive_format.specs.Archive.{document, terminator, doc, end, Seen, Stage, Verdict, goes, Runs, head_in, fault_in, seat_of, step, step_at, doc_step, head_step, end_step, opened as opened_by, behind, sound}
use Rattle.archive_format.specs.Written.{joined}
use Rattle.archive_content.specs.Pieces.{AreSound}
use Rattle.archive_content.specs.Blocks.{Seat, open_at, place_at, opened, seat, IsHead, blocks_at, BlockRuns, EndRuns}

get_set : {A : Type 0} (xs : List A) (i : ℕ) (x y : A) → slice_get xs i ≡ Some x → slice_get (set xs i y) i ≡ Some y
get_set [] i x y e = cc
get_set (z ∷ xs) zero x y e = refl
get_set (z ∷ xs) (suc i) x y e = get_set xs i x y e

set_set : {A : Type 0} (xs : List A) (i : ℕ) (y z : A) → set (set xs i y) i z ≡ set xs i z
set_set [] i y z = refl
set_set (x ∷ xs) zero y z = refl
set_set (x ∷ xs) (suc i) y z = ap (λ l. x ∷ l) (set_set xs i y z)

set_same : {A : Type 0} (xs : List A) (i : ℕ) (x : A) → slice_get xs i ≡ Some x → set xs i x ≡ xs
set_same [] i x e = refl
set_same (z ∷ xs) zero x e = let f : z ≡ x = cc in ap (λ q. q ∷ xs) (sym f)
set_same (z ∷ xs) (suc i) x e = ap (λ l. z ∷ l) (set_same xs i x e)

sum_more : (r : ℕ) (a b : List ℕ) → crc_on r (a ++ b) ≡ crc_on (crc_on r a) b
sum_more r [] b = refl
sum_more r (x ∷ a) b = sum_more (crc_step r x) a b

abbrev inside_at : Stage → ℕ → List Seen → Stage
inside_at s i seen = record { place = Inside i; metas = s.metas; seen = seen }

doc_goes : (s : Stage) (i at : ℕ) (seen : List Seen) (e : Seen) (b : List ℕ) → fault_in b ≡ None → slice_get seen i ≡ Some e →
    step (inside_at s i seen) at (document b) ≡ goes (inside_at s i (set seen i (record e { sum = crc_on e.sum b }))) (doc e.ns b ∷ [])
unfolding step_at doc_step
doc_goes s i at seen e b f g = rw (f, g) refl

stop_goes : (s : Stage) (i at : ℕ) (seen : List Seen) → step (inside_at s i seen) at terminator ≡ goes (blocks_at s seen) []
unfolding step_at
stop_goes s i at seen = refl

docs_run : (s : Stage) (i at : ℕ) (n : NsName) (ds : List (List ℕ)) (seen : List Seen) (e : Seen) → AreSound ds → slice_get seen i ≡ Some e → e.ns ≡ n →
    Runs (inside_at s i seen) at (map document ds ++ (terminator ∷ [])) (blocks_at s (set seen i (record e { sum = crc_on e.sum (joined ds) }))) (map (λ d. doc n d) ds)
docs_run s i at n [] seen e h g f =
    (blocks_at s seen, [], [], tt, stop_goes s i at seen, (ap (blocks_at s) (set_same seen i e g), refl), refl)
docs_run s i at n (d ∷ ds) seen e h g f =
    let e2 : Seen = record e { sum = crc_on e.sum d } in
    let rest = docs_run s i (at + length d) n ds (set seen i e2) e2 h.2 (get_set seen i e e2 g) f in
    let t : blocks_at s (set (set seen i e2) i (record e2 { sum = crc_on e2.sum (joined ds) })) ≡ blocks_at s (set seen i (record e { sum = crc_on e.sum (d ++ joined ds) })) =
    ap (blocks_at s) (set_set seen i e2 _ ∙ ap (λ z. set seen i (record e { sum = z })) (sym (sum_more e.sum d (joined ds)))) in (
      inside_at s i (set seen i e2),
      doc e.ns d ∷ [],
      map (λ d. doc n d) ds,
      h.0,
      doc_goes s i at seen e d h.1 g,
      subst (λ z. Runs (inside_at s i (set seen i e2)) (at + length d) (map document ds ++ (terminator ∷ [])) z (map (λ d. doc n d) ds)) t rest,
      ap (λ z. doc z d ∷ map (λ d. doc n d) ds) (sym f),
    )

abbrev after_head : Stage → NsName → Bool → Option ℤ → Option ℕ → Stage
after_head s n eof crc o = record { place = behind eof crc (place_at o s.seen); metas = s.metas; seen = open_at n o s.seen }

opened_goes : (s : Stage) (at : ℕ) (n : NsName) (eof : Bool) (crc : Option ℤ) (e : Seen) (o : Option ℕ) → slice_get (open_at n o s.seen) (place_at o s.seen) ≡ Some e → e.ended ≡ false →
    opened_by s at (record { ns = n; eof = eof; crc = crc }) o ≡ goes (after_head s n eof crc o) []
opened_goes s at n eof crc e None g f = refl
opened_goes s at n eof crc e (Some i) g f = rw (g, f) refl

place_head : (s : Stage) (at : ℕ) (b : List ℕ) (p : Place) → s.place ≡ p → step s at (document b) ≡ step_at p s at (document b)
place_head s at b p e = ap (λ z. step_at z s at (document b)) e

blocks_head : (s : Stage) (at : ℕ) (b : List ℕ) (h : Head) (v : Verdict) → fault_in b ≡ None → head_in b ≡ Some h → opened_by s at h (seat_of h.ns s.seen) ≡ v → step_at Blocks s at (document b) ≡ v
unfolding step_at head_step
blocks_head s at b h v f r e = rw (f, r) e

head_goes : (s : Stage) (at : ℕ) (n : NsName) (b : List ℕ) (eof : Bool) (crc : Option ℤ) (e : Seen) → s.place ≡ Blocks → IsHead b (record { ns = n; eof = eof; crc = crc }) →
    Seat n s.seen (opened n s.seen) (seat n s.seen) e → step s at (document b) ≡ goes (after_head s n eof crc (seat_of n s.seen)) []
head_goes s at n b eof crc e p h st =
    place_head s at b Blocks p
    ∙ blocks_head s at b (record { ns = n; eof = eof; crc = crc }) _ h.sound h.reads (opened_goes s at n eof crc e (seat_of n s.seen) st.there st.open_yet)

pub block_runs : BlockRuns
block_runs s at n b ds e p h sound st = (
  inside_at s (seat n s.seen) (opened n s.seen),
  [],
  map (λ d. doc n d) ds,
  h.item,
  head_goes s at n b false None e p h st,
  docs_run s (seat n s.seen) (at + length b) n ds (opened n s.seen) e sound st.there st.name,
  refl,
)

same_number : (n : ℕ) → (n == n) ≡ true
same_number n = grind (arith, common_steps)

end_goes : (s : Stage) (i at : ℕ) (seen : List Seen) (e : Seen) (said : ℕ) → slice_get seen i ≡ Some e → said ≡ crc_end e.sum →
    step (record { place = Ending i (Some said); metas = s.metas; seen = seen }) at terminator ≡ goes (blocks_at s (set seen i (record e { ended = true }))) (end e.ns ∷ [])
unfolding step_at end_step
end_goes s i at seen e said g f = rw (g, f) (rw (same_number (crc_end e.sum)) refl)

pub end_runs : EndRuns
end_runs s at n b e p fits h st =
    let said : cast_unsigned w64 (cast_signed w64 (crc_end e.sum)) ≡ crc_end e.sum = of_z-to_z w64 (crc_end e.sum) fits in (
      record { place = Ending (seat n s.seen) (Some (cast_unsigned w64 (cast_signed w64 (crc_end e.sum)))); metas = s.metas; seen = opened n s.seen },
      [],
      end n ∷ [],
      h.item,
      head_goes s at n b true (Some (cast_signed w64 (crc_end e.sum))) e p h st,
      (
        blocks_at s (set (opened n s.seen) (seat n s.seen) (record e { ended = true })),
        end e.ns ∷ [],
        [],
        tt,
        end_goes s (seat n s.seen) (at + length b) (opened n s.seen) e _ st.there said,
        (refl, refl),
        ap (λ z. end z ∷ []) (sym st.name),
      ),
      refl,
    )
