-- Words that mean a replay rename no collection.
use Rattle.std.proofs.Common.{◌≡◌, ℕ, ◌+◌, List, [], ◌∷◌, ◌++◌, length, Bool, true, false, refl, sym, ap, ◌∙◌, subst, Option, Some, None}
use Rattle.std.specs.Prelude.{not, ◌||◌, filter, nat_eq, Result, Ok, Err, if◌then◌else◌}
use Rattle.std.specs.List.{zip, fold}
use Rattle.std.specs.Cmp.{unsigned_Decides}
use Rattle.std.proofs.lemmas.Bool.{and_parts}
use Rattle.ns_patterns.specs.Literals.{Literals}
use Rattle.restore_filter.specs.Laws.{NamesStay}
use Rattle.restore_plan.specs.declared.plan.Plan.{Plan}
use Rattle.bson_value.specs.declared.value.Ts.{Ts}
use Rattle.history_model.specs.Laws.{IsLate}
use Rattle.archive_heals.specs.Laws.{Replays}
use Rattle.tools_words.specs.declared.order.Order.TheVariants as orders
use Rattle.tools_words.specs.declared.order.RestoreOrder.{RestoreOrder}
use Rattle.tools_words.specs.declared.table.OptionName.{OptionName}
use Rattle.tools_words.specs.declared.table.OptionName.TheVariants as names
use Rattle.tools_words.specs.declared.table.Rule.TheVariants as must
use Rattle.tools_words.specs.declared.table.Verb.{Verb}
use Rattle.tools_words.specs.declared.table.Verb.TheVariants as verbs
use Rattle.tools_words.specs.declared.words.Given.{Given}
use Rattle.tools_words.specs.Values.{row_of}
use Rattle.tools_words.specs.Words.{same_option, times_given, stands, pattern_given, patterns, plan_of, order_of, holds, hold, step, ordered, commands, command_of, meaning_of}

-- the options of a restore, whose rules hold
record Restoring (order : RestoreOrder) : Type 0 where
  given : List Given
  hold : hold verbs.Restore given ≡ true
  plan : order.plan ≡ plan_of given

restores : (verb : Verb) (gs : List Given) (order : RestoreOrder) → hold verb gs ≡ true → order_of verb gs ≡ orders.Restore order → Restoring order
restores verbs.Restore gs order h e = record { given = gs; hold = h; plan = cc }
restores verbs.Source gs order h e = cc
restores verbs.Dump gs order h e = cc
restores verbs.Drill gs order h e = cc
restores verbs.Help gs order h e = cc
restores verbs.Version gs order h e = cc

ordered_is : (verb : Verb) (r : Result (List Given) ℕ) (order : RestoreOrder) → ordered verb r ≡ Ok (orders.Restore order) → Restoring order
ordered_is verb (Err at) order e = cc
ordered_is verb (Ok gs) order e = by (hold verb gs) refl e
  where
    by : (b : Bool) → hold verb gs ≡ b → (if b then Ok (order_of verb gs) else Err (1 + length gs)) ≡ Ok (orders.Restore order) → Restoring order
    by false h f = cc
    by true h f = (let g : order_of verb gs ≡ orders.Restore order = cc in restores verb gs order h g)

restoring : (ws : List (List ℕ)) (order : RestoreOrder) → meaning_of ws ≡ Ok (orders.Restore order) → Restoring order
restoring [] order e = cc
restoring (w ∷ ws) order e = by (row_of commands w) e
  where
    by : (o : Option Verb) → command_of o ws ≡ Ok (orders.Restore order) → Restoring order
    by None f = cc
    by (Some verb) f = ordered_is verb (fold (step verb) (Ok []) ws) order f

no_pattern : (o : OptionName) (gs : List Given) → times_given o gs ≡ 0 → patterns o gs ≡ []
no_pattern o [] e = refl
no_pattern o (g ∷ gs) e = by (same_option g.row.option o) refl e (no_pattern o gs)
  where
    by : (b : Bool) → same_option g.row.option o ≡ b → length (if b then g ∷ filter (λ h. same_option h.row.option o) gs else filter (λ h. same_option h.row.option o) gs) ≡ 0 → (times_given o gs ≡ 0 → patterns o gs ≡ []) → pattern_given o g ++ patterns o gs ≡ []
    by true s f ih = cc
    by false s f ih = (let n : pattern_given o g ≡ [] = rw s refl in ap (λ (z : List Literals). z ++ patterns o gs) n ∙ ih f)

no_zip : {A B : Type 0} (xs : List A) (ys : List B) → xs ≡ [] → zip xs ys ≡ []
no_zip [] ys e = refl
no_zip (x ∷ xs) ys e = cc

-- the one option excludes the other
excluded : (t : ℕ) (b : Bool) → not (not (nat_eq t 0)) || not b ≡ true → b ≡ true → t ≡ 0
excluded t b e f = by (nat_eq t 0) refl (subst (λ (z : Bool). not (not (nat_eq t 0)) || not z ≡ true) f e)
  where
    by : (x : Bool) → nat_eq t 0 ≡ x → not (not (nat_eq t 0)) || false ≡ true → t ≡ 0
    by true g h = (unsigned_Decides t 0).0 g
    by false g h = (let k : false ≡ true = rw g at h in cc)

renames_none : (gs : List Given) → hold verbs.Restore gs ≡ true → stands names.OplogReplay gs ≡ true → (plan_of gs).filter.renames ≡ []
renames_none gs h r =
    let a = (and_parts (holds (must.Needed names.Archive) gs) _ h).1 in
    let b = (and_parts (holds (must.Needs names.OplogLimit names.OplogReplay) gs) _ a).1 in
    let c = (and_parts (holds (must.Excludes names.NsFrom names.OplogReplay) gs) _ b).0 in
    no_zip (patterns names.NsFrom gs) (patterns names.NsTo gs) (no_pattern names.NsFrom gs (excluded (times_given names.NsFrom gs) (stands names.OplogReplay gs) c r))

pub replays : NamesStay → (ws : List (List ℕ)) (order : RestoreOrder) (last_read : Ts) → meaning_of ws ≡ Ok (orders.Restore order) → order.plan.replaying ≡ true → IsLate order.plan.limit last_read → Replays order.plan last_read
replays stay ws order last_read e r l =
    let o = restoring ws order e in
    let on : stands names.OplogReplay o.given ≡ true = sym (ap (λ (p : Plan). p.replaying) o.plan) ∙ r in
    let none : order.plan.filter.renames ≡ [] = ap (λ (p : Plan). p.filter.renames) o.plan ∙ renames_none o.given o.hold on in
    record { replaying = r; late = l; plain = λ n. stay order.plan.filter n none }
