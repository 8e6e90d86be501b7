-- Which of the moments are before a limit.
use Rattle.std.proofs.Common.{◌≡◌, ℕ, suc, ◌≤◌, List, [], ◌∷◌, length, Bool, true, false, arith, refl, sym, ap, ◌∙◌, subst, inr, Option, Some, None, Result, Ok, Err}
use Rattle.std.specs.Prelude.{◌&&◌}
use Rattle.std.proofs.lemmas.Bool.{true≢false}
use Rattle.bson_value.specs.declared.value.Ts.{Ts}
use Rattle.schedule_model.specs.declared.command.Command.{Command}
use Rattle.schedule_model.specs.declared.refused.Refused.{Refused}
use Rattle.bson_value.specs.declared.namespace.NsName.{NsName}
use Rattle.coll_state.specs.Rows.{AreSound, Rows, state_of, id_of, Document as Fields}
use Rattle.copy_model.specs.Writes.{Create}
use Rattle.schedule_model.specs.declared.command.Command.TheVariants.{Document}
use Rattle.schedule_model.specs.declared.command.DocumentCommand.TheVariants.{Insert}
use Rattle.history_model.specs.Documents.{id_first, options_of}
use Rattle.history_model.specs.Entries.{One}
use Rattle.history_model.specs.Entries as entries
use Rattle.history_model.specs.Refusals.{is_there, first_of, document_rows}
use Rattle.bson_value.specs.declared.value.Value.{Value}
use Rattle.state_model.specs.States.{State}
use Rattle.history_model.proofs.Tables.{write_link}
use Rattle.store_core.specs.Applying.{stored_by}
use Rattle.history_model.specs.Stages.{Single, Stage, Made, Effect, Write, earlier, next_ts, made_in, changed_by}
use Rattle.history_model.specs.Commands.{applied, unless_refused, command_effects, one_each, under_id, insert_changes}
use Rattle.history_model.specs.Histories.{is_before, all_before, history_of, state_from}
use Rattle.history_model.proofs.Order.{before_from, earlier_trans}
use Rattle.store_log.specs.Logged as log
use Rattle.store_core.specs.Stores.{Stored, StandsAt}
use Rattle.store_core.specs.Applying.{AppliesAt, AcceptsAt}
use Rattle.schedule_source.specs.Commands.{RunsWhole, RunsInPart, CreatesAlone, second, made_before}
use Rattle.schedule_source.proofs.Moments.{Deeds, Times, deeds_of, times_of, made_links}

-- the moment that the store's next entry has
pub next_at : (s : Stored) (st : Stage) → StandsAt s st → log.next_ts s.log.clock s.log.newest ≡ next_ts st
next_at s st at = ap (λ (n : ℕ). log.next_ts n s.log.newest) at.clock ∙ ap (λ (t : Ts). log.next_ts st.clock t) at.newest

second_later : (t : Ts) → earlier t (second t) ≡ true
second_later t = before_from t (second t) (inr (refl, omega arith))

-- where the second one is before the limit, so is the first one
pub first_before : (l : Option Ts) (t : Ts) → is_before l (second t) ≡ true → is_before l t ≡ true
first_before None t e = refl
first_before (Some l) t e = earlier_trans t (second t) l (second_later t) e

pub second_not : (l : Option Ts) (t : Ts) → is_before l t ≡ false → is_before l (second t) ≡ false
second_not l t e = by (is_before l (second t)) refl
  where
    by : (b : Bool) → is_before l (second t) ≡ b → is_before l (second t) ≡ false
    by true f = let g = first_before l t f in cc
    by false f = f

too_long : (m n o : Made) (ms : List Made) → length (m ∷ n ∷ o ∷ ms) ≤ 2 → ⊥
too_long m n o ms le = omega arith

-- both moments are before the limit
pub two_before : (l : Option Ts) (t : Ts) (ms : List Made) → Times t ms → length ms ≤ 2 → is_before l (second t) ≡ true → all_before l ms ≡ true
two_before l t [] at le e = refl
two_before l t (m ∷ []) at le e = ap (λ (x : Ts). is_before l x && true) at ∙ ap (λ (b : Bool). b && true) (first_before l t e)
two_before l t (m ∷ n ∷ []) at le e =
    ap (λ (x : Ts). is_before l x && (is_before l n.ts && true)) at.0 ∙ ap (λ (b : Bool). b && (is_before l n.ts && true)) (first_before l t e) ∙ ap (λ (x : Ts). is_before l x && true) at.1 ∙ ap (λ (b : Bool). b && true) e
two_before l t (m ∷ n ∷ o ∷ ms) at le e = absurd (too_long m n o ms le)

-- one entry alone, before the limit
pub one_before : (l : Option Ts) (t : Ts) (ms : List Made) → Times t ms → length ms ≡ 1 → is_before l t ≡ true → all_before l ms ≡ true
one_before l t [] at le e = refl
one_before l t (m ∷ []) at le e = ap (λ (x : Ts). is_before l x && true) at ∙ ap (λ (b : Bool). b && true) e
one_before l t (m ∷ n ∷ ms) at le e = absurd (by ms le)
  where
    by : (ms : List Made) → suc (suc (length ms)) ≡ 1 → ⊥
    by ms f = omega arith

pub none_before : (l : Option Ts) (ms : List Made) → length ms ≡ 0 → all_before l ms ≡ true
none_before l [] e = refl
none_before l (m ∷ ms) e = absurd (by (length ms) e)
  where
    by : (n : ℕ) → suc n ≡ 0 → ⊥
    by n f = omega arith

-- ---- what is run, by what the store answers

whole_makes : (c : Command) (st after : Stage) (ms : List Made) (old new : Stored) → AreSound old.rows → StandsAt old st → StandsAt new after → applied c st ≡ Ok (after, ms) → state_of new.rows ≡ state_from (state_of old.rows) (history_of ms)
whole_makes c st after ms old new sound at stands accepted =
    ap state_of stands.rows ∙ (made_links c st after ms (subst (λ (r : Rows). AreSound r) at.rows sound) accepted ∙ ap (λ (r : Rows). state_from (state_of r) (history_of ms)) (sym at.rows))

-- two moments are before the limit: all of it is
pub runs_two : (l : Option Ts) (c : Command) (st : Stage) (n : ℕ) (old new : Stored) (t : Ts) → t ≡ log.next_ts old.log.clock old.log.newest → AreSound old.rows → StandsAt old st → AppliesAt c st n new → n ≤ 2 → is_before l (second t) ≡ true → RunsWhole l c st old new
runs_two l c st n old new t first sound at a le e =
    record {
      would = record { after = a.after; made = a.made; accepted = a.accepted };
      earlier = two_before l (next_ts st) a.made (times_of c st a.after a.made a.accepted) (subst (λ (x : ℕ). x ≤ 2) a.number le) (subst (λ (t : Ts). is_before l (second t) ≡ true) (first ∙ next_at old st at) e);
      stands = a.stands;
      makes = whole_makes c st a.after a.made old new sound at a.stands a.accepted;
    }

-- what applying and checking answer is one
abbrev made_or : Result (Stage × List Made) Refused → List Made
made_or (Ok x) = x.1
made_or (Err r) = []

same_number : (c : Command) (st : Stage) (n m : ℕ) (new : Stored) → (a : AppliesAt c st n new) → AcceptsAt c st m → length a.made ≡ m
same_number c st n m new a b = ap (λ (x : Result (Stage × List Made) Refused). length (made_or x)) (sym a.accepted ∙ b.accepted) ∙ sym b.number

pub runs_none : (l : Option Ts) (c : Command) (st : Stage) (n m : ℕ) (old new : Stored) → AreSound old.rows → StandsAt old st → AppliesAt c st n new → AcceptsAt c st m → m ≡ 0 → RunsWhole l c st old new
runs_none l c st n m old new sound at a b e =
    record {
      would = record { after = a.after; made = a.made; accepted = a.accepted };
      earlier = none_before l a.made (same_number c st n m new a b ∙ e);
      stands = a.stands;
      makes = whole_makes c st a.after a.made old new sound at a.stands a.accepted;
    }

pub runs_one : (l : Option Ts) (c : Command) (st : Stage) (n m : ℕ) (old new : Stored) (t : Ts) → t ≡ log.next_ts old.log.clock old.log.newest → AreSound old.rows → StandsAt old st → AppliesAt c st n new → AcceptsAt c st m → m ≡ 1 → is_before l t ≡ true → RunsWhole l c st old new
runs_one l c st n m old new t first sound at a b e g =
    record {
      would = record { after = a.after; made = a.made; accepted = a.accepted };
      earlier = one_before l (next_ts st) a.made (times_of c st a.after a.made a.accepted) (same_number c st n m new a b ∙ e) (subst (λ (t : Ts). is_before l t ≡ true) (first ∙ next_at old st at) g);
      stands = a.stands;
      makes = whole_makes c st a.after a.made old new sound at a.stands a.accepted;
    }

-- the first moment isn't before the limit: nothing of it is
pub makes_none : (l : Option Ts) (t : Ts) (ms : List Made) → Times t ms → length ms ≤ 2 → is_before l t ≡ false → is_before l (second t) ≡ false → made_before l ms ≡ []
makes_none l t [] at le e f = refl
makes_none l t (m ∷ []) at le e f = rw at (rw e refl)
makes_none l t (m ∷ n ∷ []) at le e f = rw at.0 (rw at.1 (rw e (rw f refl)))
makes_none l t (m ∷ n ∷ o ∷ ms) at le e f = absurd (too_long m n o ms le)

pub not_all : (l : Option Ts) (t : Ts) (ms : List Made) → Times t ms → (length ms ≡ 0 → ⊥) → is_before l t ≡ false → all_before l ms ≡ false
not_all l t [] at more e = absurd (more refl)
not_all l t (m ∷ []) at more e = rw at (rw e refl)
not_all l t (m ∷ n ∷ ms) at more e = rw at.0 (rw e refl)

pub runs_nothing : (l : Option Ts) (c : Command) (st : Stage) (m : ℕ) (old : Stored) (t : Ts) → t ≡ log.next_ts old.log.clock old.log.newest → StandsAt old st → AcceptsAt c st m → m ≤ 2 → (m ≡ 0 → ⊥) → is_before l t ≡ false → is_before l (second t) ≡ false → RunsInPart l c st old old
runs_nothing l c st m old t first at b le more e f =
    record {
      would = record { after = b.after; made = b.made; accepted = b.accepted };
      later = not_all l t b.made times (λ x. more (b.number ∙ x)) e;
      makes = ap (λ (ms : List Made). state_from (state_of old.rows) (history_of ms)) (sym (makes_none l t b.made times (subst (λ (x : ℕ). x ≤ 2) b.number le) e f));
    }
  where
    times : Times t b.made
    times = subst (λ (x : Ts). Times x b.made) (sym (first ∙ next_at old st at)) (times_of c st b.after b.made b.accepted)

-- ---- the creation alone

pub creates : (c : Command) (old new : Stored) (n : NsName) (d : Fields) → c ≡ Document (Insert n d) → is_there n old.rows ≡ false → AreSound old.rows → new ≡ stored_by (Single (Create n (options_of [])), One (entries.Create n [])) old → CreatesAlone c old new
creates c old new n d e missing sound makes =
    record {
      ns = n;
      doc = d;
      inserts = e;
      missing = missing;
      makes = ap (λ (s : Stored). state_of s.rows) makes ∙ write_link (Single (Create n (options_of []))) old.rows sound;
    }

-- what an insert into a missing collection makes first
abbrev write_or : Write → List Made → Write
write_or w [] = w
write_or w (m ∷ ms) = m.write

first_is : (b : Bool) (o : Option Value) (n : NsName) (d : Fields) → b ≡ false → (x : Made) (more : List Made) (st : Stage) → x ∷ more ≡ made_in (one_each (under_id (λ id. insert_changes b n id (id_first d)) o)) st → x.write ≡ Single (Create n (options_of []))
first_is b None n d e x more st f = cc
first_is true (Some id) n d e x more st f = absurd (true≢false e)
first_is false (Some id) n d e x more st f = ap (λ (ms : List Made). write_or x.write ms) f

accepted_deeds : (o : Option Refused) (ds es : List Effect) → unless_refused o ds ≡ Ok es → es ≡ ds
accepted_deeds None ds es e = cc
accepted_deeds (Some r) ds es e = cc

creation_first : (c : Command) (st after : Stage) (n : NsName) (d : Fields) (x : Made) (more : List Made) → c ≡ Document (Insert n d) → is_there n st.rows ≡ false → Deeds c st after (x ∷ more) → x.write ≡ Single (Create n (options_of []))
creation_first c st after n d x more e missing w = by (subst (λ (k : Command). Deeds k st after (x ∷ more)) e w)
  where
    by : Deeds (Document (Insert n d)) st after (x ∷ more) → x.write ≡ Single (Create n (options_of []))
    by v =
        first_is (is_there n st.rows) (id_of d) n d missing x more st (v.made_are ∙ ap (λ (ds : List Effect). made_in ds st) (accepted_deeds (first_of (document_rows false (Insert n d) st.rows)) (command_effects (Document (Insert n d)) st) v.deeds v.accepted))

-- two entries, of which the first one alone is before the limit
pub first_alone : (l : Option Ts) (t : Ts) (ms : List Made) (s s' : State) (w : Write) → Times t ms → length ms ≤ 2 → (length ms ≡ 0 → ⊥) → (length ms ≡ 1 → ⊥) → is_before l t ≡ true → is_before l (second t) ≡ false → ((x : Made) (more : List Made) → x ∷ more ≡ ms → x.write ≡ w) → s' ≡ changed_by w s → (all_before l ms ≡ false) × (s' ≡ state_from s (history_of (made_before l ms)))
first_alone l t [] s s' w at le more many e f g h = absurd (more refl)
first_alone l t (m ∷ []) s s' w at le more many e f g h = absurd (many refl)
first_alone l t (m ∷ n ∷ []) s s' w at le more many e f g h = (not_both, h ∙ (ap (λ (x : Write). changed_by x s) (sym (g m (n ∷ []) refl)) ∙ ap (λ (ms : List Made). state_from s (history_of ms)) (sym one)))
  where
    not_both : all_before l (m ∷ n ∷ []) ≡ false
    not_both = rw at.0 (rw at.1 (rw e (rw f refl)))

    one : made_before l (m ∷ n ∷ []) ≡ m ∷ []
    one = rw at.0 (rw at.1 (rw e (rw f refl)))
first_alone l t (m ∷ n ∷ o ∷ ms) s s' w at le more many e f g h = absurd (too_long m n o ms le)

pub runs_creation : (l : Option Ts) (c : Command) (st : Stage) (m : ℕ) (old new : Stored) (t : Ts) → t ≡ log.next_ts old.log.clock old.log.newest → StandsAt old st → AcceptsAt c st m → m ≤ 2 → (m ≡ 0 → ⊥) → (m ≡ 1 → ⊥) → is_before l t ≡ true → is_before l (second t) ≡ false → CreatesAlone c old new → RunsInPart l c st old new
runs_creation l c st m old new t first at b le more many e f a =
    record {
      would = record { after = b.after; made = b.made; accepted = b.accepted };
      later = both.0;
      makes = both.1;
    }
  where
    times : Times t b.made
    times = subst (λ (x : Ts). Times x b.made) (sym (first ∙ next_at old st at)) (times_of c st b.after b.made b.accepted)

    creation : Write
    creation = Single (Create a.ns (options_of []))

    firsts : (x : Made) (ms : List Made) → x ∷ ms ≡ b.made → x.write ≡ creation
    firsts x ms g = creation_first c st b.after a.ns a.doc x ms a.inserts (subst (λ (r : Rows). is_there a.ns r ≡ false) at.rows a.missing) (subst (λ (y : List Made). Deeds c st b.after y) (sym g) (deeds_of c st b.after b.made b.accepted))

    both : (all_before l b.made ≡ false) × (state_of new.rows ≡ state_from (state_of old.rows) (history_of (made_before l b.made)))
    both = first_alone l t b.made (state_of old.rows) (state_of new.rows) creation times (subst (λ (x : ℕ). x ≤ 2) b.number le) (λ x. more (b.number ∙ x)) (λ x. many (b.number ∙ x)) e f firsts a.makes
