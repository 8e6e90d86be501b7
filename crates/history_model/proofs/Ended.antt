-- A cursor that ended reads no more, a mark stays, and one line ended the last cursor.
use Rattle.std.proofs.Common.{◌≡◌, ℕ, List, [], ◌∷◌, ◌++◌, Bool, true, false, refl, sym, ap, ◌∙◌, subst, Option, Some, None, inl, inr}
use Rattle.std.specs.Prelude.{◌⊎◌, is_some}
use Rattle.std.specs.FinMap as map
use Rattle.std.proofs.lemmas.Bool.{cases_Bool}
use Rattle.bson_value.specs.declared.value.Ts.{Ts}
use Rattle.bson_value.specs.NamespaceOrder.{namespace_cmp}
use Rattle.schedule_model.specs.declared.line.Line.{Line}
use Rattle.copy_model.specs.Cursors.{Cursor, Read}
use Rattle.history_model.specs.Runs.{DumpState, Entries, Run, first_dump_state, started, all_ended, last_read_at, with_cursor, after_line, after_lines}
use Rattle.history_model.specs.Recordings.{reads_in}
use Rattle.history_model.proofs.Mirrored.{got_join}
use Rattle.history_model.proofs.AtTheMark.{all_have_ended}
use Rattle.history_model.proofs.Steps.{Steps, after_one, after_all}

pub same_copy : (a b : DumpState) → Some a ≡ Some b → a ≡ b
same_copy a b e = cc

pub no_dump : {A : Type 0} (d : DumpState) → None ≡ Some d → A
no_dump d e = cc

-- ---- every cursor has ended: nothing is read any more, and the last read stays

pub record AllRead (ts : Ts) (reads : List Read) (r : Run) : Type 0 where
  pub copy : DumpState
  pub there : r.dump ≡ Some copy
  pub last : copy.last_read ≡ ts
  pub all : all_ended copy.cursors ≡ true
  pub same : reads_in r.steps [] ≡ reads

true_false : (b : Bool) → b ≡ true → b ≡ false → ⊥
true_false b e f = cc

all_read_steps : (ts : Ts) (reads : List Read) → Steps (AllRead ts reads) (AllRead ts reads)
all_read_steps ts reads = record {
  same = λ r p. p;
  refused = λ r xs p. record { copy = p.copy; there = p.there; last = p.last; all = p.all; same = p.same };
  command = λ r st ms p g. record { copy = p.copy; there = p.there; last = p.last; all = p.all; same = p.same };
  starts = λ r p e. no_dump p.copy (sym e ∙ p.there);
  reads = λ r d p e n c f g x. absurd (true_false c.ended (all_have_ended d.cursors (subst (λ (z : DumpState). all_ended z.cursors ≡ true) (same_copy p.copy d (sym p.there ∙ e)) p.all) n c f) g);
  fails = λ r o p. record { copy = p.copy; there = p.there; last = p.last; all = p.all; same = p.same };
  marks = λ r d p e f g. record { copy = record d { mark = Some r.stage.newest }; there = refl; last = subst (λ (z : DumpState). z.last_read ≡ ts) (same_copy p.copy d (sym p.there ∙ e)) p.last; all = g; same = p.same };
  sends = λ r d p e n m f g. record {
    copy = _;
    there = refl;
    last = subst (λ (z : DumpState). z.last_read ≡ ts) (same_copy p.copy d (sym p.there ∙ e)) p.last;
    all = subst (λ (z : DumpState). all_ended z.cursors ≡ true) (same_copy p.copy d (sym p.there ∙ e)) p.all;
    same = got_join r.steps (Entries _ _ ∷ []) [] ∙ p.same;
  };
}

pub all_read : (ts : Ts) (reads : List Read) (ls : List (ℕ × Line)) (r : Run) → AllRead ts reads r → AllRead ts reads (after_lines ls r)
all_read ts reads ls r p = after_all (all_read_steps ts reads) ls r p

-- ---- the mark stays

pub record HasMark (ts : Ts) (r : Run) : Type 0 where
  pub copy : DumpState
  pub there : r.dump ≡ Some copy
  pub marked : copy.mark ≡ Some ts

pub marked_not : (o : Option Ts) (ts : Ts) → o ≡ Some ts → is_some o ≡ false → ⊥
marked_not o ts e f = (let g : is_some o ≡ true = ap is_some e in true_false (is_some o) g f)

has_mark_steps : (ts : Ts) → Steps (HasMark ts) (HasMark ts)
has_mark_steps ts = record {
  same = λ r p. p;
  refused = λ r xs p. record { copy = p.copy; there = p.there; marked = p.marked };
  command = λ r st ms p g. record { copy = p.copy; there = p.there; marked = p.marked };
  starts = λ r p e. no_dump p.copy (sym e ∙ p.there);
  reads = λ r d p e n c f g x. record { copy = _; there = refl; marked = subst (λ (z : DumpState). z.mark ≡ Some ts) (same_copy p.copy d (sym p.there ∙ e)) p.marked };
  fails = λ r o p. record { copy = p.copy; there = p.there; marked = p.marked };
  marks = λ r d p e f g. absurd (marked_not d.mark ts (subst (λ (z : DumpState). z.mark ≡ Some ts) (same_copy p.copy d (sym p.there ∙ e)) p.marked) f);
  sends = λ r d p e n m f g. record { copy = _; there = refl; marked = subst (λ (z : DumpState). z.mark ≡ Some ts) (same_copy p.copy d (sym p.there ∙ e)) p.marked };
}

pub mark_stays : (ts : Ts) (ls : List (ℕ × Line)) (r : Run) → HasMark ts r → HasMark ts (after_lines ls r)
mark_stays ts ls r p = after_all (has_mark_steps ts) ls r p

-- ---- the moment when the last cursor ended

pub record SomeOpen (r : Run) : Type 0 where
  pub copy : DumpState
  pub there : r.dump ≡ Some copy
  pub not_all : all_ended copy.cursors ≡ false

-- where it is now, the last read is the newest entry's
abbrev pub EndedNow : DumpState → Ts → Type 0
EndedNow d ts = (all_ended d.cursors ≡ true) × (d.last_read ≡ ts)

pub record JustEnded (r : Run) : Type 0 where
  pub copy : DumpState
  pub there : r.dump ≡ Some copy
  pub either : (all_ended copy.cursors ≡ false) ⊎ EndedNow copy r.stage.newest

open_steps : Steps SomeOpen JustEnded
open_steps = record {
  same = λ r p. record { copy = p.copy; there = p.there; either = inl p.not_all };
  refused = λ r xs p. record { copy = p.copy; there = p.there; either = inl p.not_all };
  command = λ r st ms p g. record { copy = p.copy; there = p.there; either = inl p.not_all };
  starts = λ r p e. no_dump p.copy (sym e ∙ p.there);
  reads = λ r d p e n c f g x. record { copy = _; there = refl; either = by (map.insert d.cursors n x.1) r.stage.newest d (cases_Bool (all_ended (map.insert d.cursors n x.1))) };
  fails = λ r o p. record { copy = p.copy; there = p.there; either = inl p.not_all };
  marks = λ r d p e f g. absurd (true_false (all_ended d.cursors) g (subst (λ (z : DumpState). all_ended z.cursors ≡ false) (same_copy p.copy d (sym p.there ∙ e)) p.not_all));
  sends = λ r d p e n m f g. record { copy = _; there = refl; either = inl (subst (λ (z : DumpState). all_ended z.cursors ≡ false) (same_copy p.copy d (sym p.there ∙ e)) p.not_all) };
}
  where
    by : (cs : map.FinMap namespace_cmp Cursor) (now : Ts) (d : DumpState) → (all_ended cs ≡ true) ⊎ (all_ended cs ≡ false) → (all_ended cs ≡ false) ⊎ EndedNow (with_cursor cs now d) now
    by cs now d (inl s) = inr (s, ap (λ (b : Bool). last_read_at b now d.last_read) s)
    by cs now d (inr s) = inl s

-- a list of lines is cut where the last cursor ended
pub record EndsAt (r : Run) (ls : List (ℕ × Line)) : Type 0 where
  pub front : List (ℕ × Line)
  pub back : List (ℕ × Line)
  pub whole : ls ≡ front ++ back
  pub copy : DumpState
  pub there : (after_lines front r).dump ≡ Some copy
  pub all : all_ended copy.cursors ≡ true
  pub last : copy.last_read ≡ (after_lines front r).stage.newest

pub ends_at : (ls : List (ℕ × Line)) (r : Run) → JustEnded r → (d : DumpState) → (after_lines ls r).dump ≡ Some d → all_ended d.cursors ≡ true → EndsAt r ls
ends_at [] r j d e a = by j.either
  where
    by : (all_ended j.copy.cursors ≡ false) ⊎ EndedNow j.copy r.stage.newest → EndsAt r []
    by (inr x) = record { front = []; back = []; whole = refl; copy = j.copy; there = j.there; all = x.0; last = x.1 }
    by (inl x) = absurd (true_false (all_ended d.cursors) a (subst (λ (z : DumpState). all_ended z.cursors ≡ false) (same_copy j.copy d (sym j.there ∙ e)) x))
ends_at (l ∷ ls) r j d e a = by j.either (λ n. ends_at ls (after_line l r) n d e a)
  where
    by : (all_ended j.copy.cursors ≡ false) ⊎ EndedNow j.copy r.stage.newest → (JustEnded (after_line l r) → EndsAt (after_line l r) ls) → EndsAt r (l ∷ ls)
    by (inr x) rest = record { front = []; back = l ∷ ls; whole = refl; copy = j.copy; there = j.there; all = x.0; last = x.1 }
    by (inl x) rest =
        (let s = rest (after_one open_steps l r (record { copy = j.copy; there = j.there; not_all = x })) in
        record { front = l ∷ s.front; back = s.back; whole = ap (λ (z : List (ℕ × Line)). l ∷ z) s.whole; copy = s.copy; there = s.there; all = s.all; last = s.last })

pub just_started : (r : Run) → JustEnded (started r)
just_started r = record { copy = first_dump_state r.stage; there = refl; either = by (cases_Bool (all_ended (first_dump_state r.stage).cursors)) }
  where
    by : (all_ended (first_dump_state r.stage).cursors ≡ true) ⊎ (all_ended (first_dump_state r.stage).cursors ≡ false) → (all_ended (first_dump_state r.stage).cursors ≡ false) ⊎ EndedNow (first_dump_state r.stage) r.stage.newest
    by (inl s) = inr (s, refl)
    by (inr s) = inl s
