-- What is said of an entry, level by level.
use Rattle.std.proofs.Common.{◌≡◌, ℕ, List, [], ◌∷◌, ◌++◌, true, false, map, refl, sym, ap, ◌∙◌, Option, Some, None}
use Rattle.std.specs.Prelude.{if◌then◌else◌}
use Rattle.bson_value.specs.declared.value.Ts.{Ts}
use Rattle.bson_value.specs.declared.namespace.NsName.{NsName}
use Rattle.entry_model.specs.declared.entry.Entry.{Entry, Entry-F, fold_out-Entry}
use Rattle.entry_model.specs.declared.entry.Action.{Action, out-Action, roll-Action, roll-out-Action, fold-Action, fold_out-Action, map-Action}
use Rattle.entry_model.specs.declared.entry.Action.TheVariants as actions
use Rattle.entry_model.specs.declared.entry.Action.TheOpen.{Action-F}
use Rattle.entry_model.specs.Edits.{gathered}
use Rattle.coll_state.specs.Rows.{Document}
use Rattle.replay.specs.declared.fault.ReplayFault.{ReplayFault}
use Rattle.replay.specs.declared.fault.ReplayFault.TheVariants.{Rename, OtherCommand}
use Rattle.replay.specs.Moves.{Step, is_config, definition_moves, normal_of, moves_at, steps_at, steps_of, total, count_at, item_count}
use Rattle.replay.specs.Refusals.{first, refused_at, first_refused}

abbrev pub Level : Type 0
Level = Action-F Action Entry

-- ---- steps

abbrev pub steps_below : NsName → Level → List Step
steps_below n (Action-F.AddIndexes ds) = map (λ d. definition_moves n (normal_of d)) ds
steps_below n (Action-F.Group es) = gathered steps_of es
steps_below n a = moves_at n a ∷ []

mapped_steps : (f : Entry → List Step) (es : List Entry) → gathered (λ steps. steps) (map f es) ≡ gathered f es
mapped_steps f [] = refl
mapped_steps f (e ∷ es) = ap (λ (l : List Step). f e ++ l) (mapped_steps f es)

module _ (f : Action → NsName → List Step) (n : NsName) where
  steps_level : (a : Level) → steps_at n (map-Action Action Entry (NsName → List Step) (List Step) f steps_of a) ≡ steps_below n a
  steps_level Action-F.Nothing = refl
  steps_level (Action-F.Put d) = refl
  steps_level (Action-F.Remove id) = refl
  steps_level (Action-F.Whole id d) = refl
  steps_level (Action-F.Delta id f ts) = refl
  steps_level (Action-F.Create o) = refl
  steps_level Action-F.DropColl = refl
  steps_level Action-F.DropDb = refl
  steps_level (Action-F.AddIndexes ds) = refl
  steps_level (Action-F.DropIndex i) = refl
  steps_level (Action-F.Rename a b) = refl
  steps_level (Action-F.Group es) = mapped_steps steps_of es
  steps_level (Action-F.Other t) = refl

pub steps_is : (e : Entry) → steps_of e ≡ (if is_config e.ns then [] else steps_below e.ns (out-Action e.action))
unfolding steps_of
steps_is e =
    let R = NsName → List Step in
    let up = λ (l : List Step). if is_config e.ns then [] else l in
    let level = λ (a : Action-F R (List Step)) (n : NsName). steps_at n a in
    let entry = λ (x : Entry-F R (List Step)). if is_config x.ns then [] else x.action x.ns in
    fold_out-Entry R (List Step) level entry e
    ∙ ap (λ (s : R). up (s e.ns)) (fold_out-Action R (List Step) level entry e.action)
    ∙ ap up (steps_level (fold-Action R (List Step) level entry) e.ns (out-Action e.action))

-- ---- items

abbrev pub count_below : Level → ℕ
count_below (Action-F.Group es) = total (map item_count es)
count_below a = 1

module _ (f : Action → ℕ) where
  count_level : (a : Level) → count_at (map-Action Action Entry ℕ ℕ f item_count a) ≡ count_below a
  count_level Action-F.Nothing = refl
  count_level (Action-F.Put d) = refl
  count_level (Action-F.Remove id) = refl
  count_level (Action-F.Whole id d) = refl
  count_level (Action-F.Delta id f ts) = refl
  count_level (Action-F.Create o) = refl
  count_level Action-F.DropColl = refl
  count_level Action-F.DropDb = refl
  count_level (Action-F.AddIndexes ds) = refl
  count_level (Action-F.DropIndex i) = refl
  count_level (Action-F.Rename a b) = refl
  count_level (Action-F.Group es) = refl
  count_level (Action-F.Other t) = refl

pub count_is : (e : Entry) → item_count e ≡ count_below (out-Action e.action)
unfolding item_count
count_is e =
    let entry = λ (x : Entry-F ℕ ℕ). x.action in
    fold_out-Entry ℕ ℕ count_at entry e ∙ (fold_out-Action ℕ ℕ count_at entry e.action ∙ count_level (fold-Action ℕ ℕ count_at entry) (out-Action e.action))

-- ---- refusals

abbrev pub refused_below : Ts → Level → Option ReplayFault
refused_below ts (Action-F.Rename from to) = Some (Rename ts)
refused_below ts (Action-F.Other name) = Some (OtherCommand ts name)
refused_below ts (Action-F.Group es) = first (map first_refused es)
refused_below ts a = None

module _ (f : Action → Ts → Option ReplayFault) (ts : Ts) where
  refused_level : (a : Level) → refused_at ts (map-Action Action Entry (Ts → Option ReplayFault) (Option ReplayFault) f first_refused a) ≡ refused_below ts a
  refused_level Action-F.Nothing = refl
  refused_level (Action-F.Put d) = refl
  refused_level (Action-F.Remove id) = refl
  refused_level (Action-F.Whole id d) = refl
  refused_level (Action-F.Delta id f ts) = refl
  refused_level (Action-F.Create o) = refl
  refused_level Action-F.DropColl = refl
  refused_level Action-F.DropDb = refl
  refused_level (Action-F.AddIndexes ds) = refl
  refused_level (Action-F.DropIndex i) = refl
  refused_level (Action-F.Rename a b) = refl
  refused_level (Action-F.Group es) = refl
  refused_level (Action-F.Other t) = refl

pub refused_is : (e : Entry) → first_refused e ≡ (if is_config e.ns then None else refused_below e.ts (out-Action e.action))
unfolding first_refused
refused_is e =
    let O = Option ReplayFault in
    let up = λ (o : O). if is_config e.ns then None else o in
    let level = λ (a : Action-F (Ts → O) O) (ts : Ts). refused_at ts a in
    let entry = λ (x : Entry-F (Ts → O) O). if is_config x.ns then None else x.action x.ts in
    fold_out-Entry (Ts → O) O level entry e
    ∙ ap (λ (s : Ts → O). up (s e.ts)) (fold_out-Action (Ts → O) O level entry e.action)
    ∙ ap up (refused_level (fold-Action (Ts → O) O level entry) e.ts (out-Action e.action))

-- ---- what the code meets

pub count_group : (e : Entry) (es : List Entry) → e.action ≡ actions.Group es → item_count e ≡ total (map item_count es)
count_group e es is = count_is e ∙ (ap (λ (a : Action). count_below (out-Action a)) is ∙ ap count_below (actions.outs-Group es))

pub refused_config : (e : Entry) → is_config e.ns ≡ true → first_refused e ≡ None
refused_config e h = refused_is e ∙ rw h refl

refused_else : (e : Entry) (a : Action) → is_config e.ns ≡ false → e.action ≡ a → first_refused e ≡ refused_below e.ts (out-Action a)
refused_else e a h is = refused_is e ∙ (rw h refl ∙ ap (λ (b : Action). refused_below e.ts (out-Action b)) is)

pub refused_group : (e : Entry) (es : List Entry) → is_config e.ns ≡ false → e.action ≡ actions.Group es → first_refused e ≡ first (map first_refused es)
refused_group e es h is = refused_else e (actions.Group es) h is ∙ ap (refused_below e.ts) (actions.outs-Group es)

pub refused_rename : (e : Entry) (a b : NsName) → is_config e.ns ≡ false → e.action ≡ actions.Rename a b → first_refused e ≡ Some (Rename e.ts)
refused_rename e a b h is = refused_else e (actions.Rename a b) h is ∙ ap (refused_below e.ts) (actions.outs-Rename a b)

pub refused_other : (e : Entry) (t : List ℕ) → is_config e.ns ≡ false → e.action ≡ actions.Other t → first_refused e ≡ Some (OtherCommand e.ts t)
refused_other e t h is = refused_else e (actions.Other t) h is ∙ ap (refused_below e.ts) (actions.outs-Other t)

rolled : (a : Action) (x : Level) → out-Action a ≡ x → a ≡ roll-Action x
rolled a x h = sym (roll-out-Action a) ∙ ap roll-Action h

count_level_one : (x : Level) → ((es : List Entry) → x ≡ Action-F.Group es → ⊥) → count_below x ≡ 1
count_level_one (Action-F.Group es) h = absurd (h es refl)
count_level_one _ h = refl

pub count_one : (e : Entry) → ((es : List Entry) → e.action ≡ actions.Group es → ⊥) → item_count e ≡ 1
count_one e h = count_is e ∙ count_level_one (out-Action e.action) (λ es is. h es (rolled e.action (Action-F.Group es) is ∙ actions.rolls-Group es))

refused_level_none : (ts : Ts) (x : Level) → ((a b : NsName) → x ≡ Action-F.Rename a b → ⊥) → ((es : List Entry) → x ≡ Action-F.Group es → ⊥) → ((t : List ℕ) → x ≡ Action-F.Other t → ⊥) → refused_below ts x ≡ None
refused_level_none ts (Action-F.Rename a b) r g o = absurd (r a b refl)
refused_level_none ts (Action-F.Group es) r g o = absurd (g es refl)
refused_level_none ts (Action-F.Other t) r g o = absurd (o t refl)
refused_level_none ts _ r g o = refl

pub refused_none : (e : Entry) → is_config e.ns ≡ false → ((a b : NsName) → e.action ≡ actions.Rename a b → ⊥) → ((es : List Entry) → e.action ≡ actions.Group es → ⊥) → ((t : List ℕ) → e.action ≡ actions.Other t → ⊥) → first_refused e ≡ None
refused_none e h r g o =
    refused_else e e.action h refl
    ∙ refused_level_none e.ts (out-Action e.action)
    (λ a b is. r a b (rolled e.action (Action-F.Rename a b) is ∙ actions.rolls-Rename a b))
    (λ es is. g es (rolled e.action (Action-F.Group es) is ∙ actions.rolls-Group es))
    (λ t is. o t (rolled e.action (Action-F.Other t) is ∙ actions.rolls-Other t))

pub steps_config : (e : Entry) → is_config e.ns ≡ true → steps_of e ≡ []
steps_config e h = steps_is e ∙ rw h refl

steps_else : (e : Entry) (a : Action) → is_config e.ns ≡ false → e.action ≡ a → steps_of e ≡ steps_below e.ns (out-Action a)
steps_else e a h is = steps_is e ∙ (rw h refl ∙ ap (λ (b : Action). steps_below e.ns (out-Action b)) is)

pub steps_group : (e : Entry) (es : List Entry) → is_config e.ns ≡ false → e.action ≡ actions.Group es → steps_of e ≡ gathered steps_of es
steps_group e es h is = steps_else e (actions.Group es) h is ∙ ap (steps_below e.ns) (actions.outs-Group es)

pub steps_indexes : (e : Entry) (ds : List Document) → is_config e.ns ≡ false → e.action ≡ actions.AddIndexes ds → steps_of e ≡ map (λ d. definition_moves e.ns (normal_of d)) ds
steps_indexes e ds h is = steps_else e (actions.AddIndexes ds) h is ∙ ap (steps_below e.ns) (actions.outs-AddIndexes ds)

steps_level_one : (n : NsName) (x : Level) → ((ds : List Document) → x ≡ Action-F.AddIndexes ds → ⊥) → ((es : List Entry) → x ≡ Action-F.Group es → ⊥) → steps_below n x ≡ moves_at n x ∷ []
steps_level_one n (Action-F.AddIndexes ds) d g = absurd (d ds refl)
steps_level_one n (Action-F.Group es) d g = absurd (g es refl)
steps_level_one n _ d g = refl

pub steps_one : (e : Entry) → is_config e.ns ≡ false → ((ds : List Document) → e.action ≡ actions.AddIndexes ds → ⊥) → ((es : List Entry) → e.action ≡ actions.Group es → ⊥) → steps_of e ≡ moves_at e.ns (out-Action e.action) ∷ []
steps_one e h d g =
    steps_else e e.action h refl
    ∙ steps_level_one e.ns (out-Action e.action)
    (λ ds is. d ds (rolled e.action (Action-F.AddIndexes ds) is ∙ actions.rolls-AddIndexes ds))
    (λ es is. g es (rolled e.action (Action-F.Group es) is ∙ actions.rolls-Group es))
