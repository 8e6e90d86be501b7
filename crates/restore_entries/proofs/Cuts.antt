-- The moves of what is kept of an entry.
use Rattle.std.proofs.Common.{◌≡◌, Bool, true, false, cond, List, [], ◌∷◌, ◌++◌, map, refl, sym, ap, ◌∙◌, append_assoc, subst, Option, Some, None}
use Rattle.std.specs.Prelude.{filter, ◌||◌, if◌then◌else◌}
use Rattle.std.specs.Str.{bytes_eq}
use Rattle.std.specs.Prelude.{codes}
use Rattle.bson_value.specs.declared.namespace.NsName.{NsName}
use Rattle.bson_value.specs.declared.value.Value.{Value}
use Rattle.doc_path.specs.declared.parts.Form.{Form}
use Rattle.doc_path.specs.declared.touches.Touch.{Touch}
use Rattle.json_tree.specs.declared.tree.Tree.{Tree}
use Rattle.state_model.specs.Keys.{Key}
use Rattle.state_model.specs.Moves.{Move}
use Rattle.state_model.specs.Moves as moves
use Rattle.state_model.specs.Windows.{joined}
use Rattle.state_model.specs.Cut.{takes_move, taken}
use Rattle.coll_state.specs.Rows.{Document, id_of}
use Rattle.coll_state.specs.Definitions.{definition_name}
use Rattle.entry_model.specs.declared.entry.Entry.{Entry}
use Rattle.entry_model.specs.declared.entry.Action.{out-Action}
use Rattle.entry_model.specs.declared.entry.Action.TheVariants.{Group, outs-Group}
use Rattle.entry_model.specs.declared.entry.Action.TheOpen.{Action-F}
use Rattle.entry_model.specs.Edits.{gathered}
use Rattle.replay.specs.Moves.{Step, is_config, put_moves, deltas, normal_of, definition_moves, steps_of, moves_of}
use Rattle.replay.proofs.Folds.{Level, steps_below, steps_is}
use Rattle.restore_filter.specs.Rules.{Rules}
use Rattle.restore_filter.specs.Names.{takes}
use Rattle.restore_entries.specs.Cut.{names_none, takes_action, takes_entry, cut_action, cut_entry}
use Rattle.restore_entries.specs.Laws.{IsSingle, AreSingle, IsFlat}

-- ---- lists of moves

taken_cons : (f : NsName → Bool) (m : Move) (ms ns : List Move) → (cond (takes_move f m) (m ∷ ms) ms) ++ ns ≡ cond (takes_move f m) (m ∷ (ms ++ ns)) (ms ++ ns)
taken_cons f m ms ns = by (takes_move f m)
  where
    by : (b : Bool) → (cond b (m ∷ ms) ms) ++ ns ≡ cond b (m ∷ (ms ++ ns)) (ms ++ ns)
    by true = refl
    by false = refl

pub taken-append : (f : NsName → Bool) (ms ns : List Move) → taken f (ms ++ ns) ≡ taken f ms ++ taken f ns
taken-append f [] ns = refl
taken-append f (m ∷ ms) ns = ap (λ (l : List Move). cond (takes_move f m) (m ∷ l) l) (taken-append f ms ns) ∙ sym (taken_cons f m (taken f ms) (taken f ns))

-- all of them are taken, or none
abbrev pub Alike : (NsName → Bool) → Bool → List Move → Type 0
Alike f b ms = taken f ms ≡ (if b then ms else [])

alike_none : (f : NsName → Bool) (b : Bool) → Alike f b []
alike_none f true = refl
alike_none f false = refl

alike_cons : (f : NsName → Bool) (b : Bool) (m : Move) (ms : List Move) → takes_move f m ≡ b → Alike f b ms → Alike f b (m ∷ ms)
alike_cons f true m ms e h = ap (λ c. cond c (m ∷ taken f ms) (taken f ms)) e ∙ ap (λ (l : List Move). m ∷ l) h
alike_cons f false m ms e h = ap (λ c. cond c (m ∷ taken f ms) (taken f ms)) e ∙ h

alike_append : (f : NsName → Bool) (b : Bool) (ms ns : List Move) → Alike f b ms → Alike f b ns → Alike f b (ms ++ ns)
alike_append f true ms ns g h = taken-append f ms ns ∙ (λ i. g i ++ h i)
alike_append f false ms ns g h = taken-append f ms ns ∙ (λ i. g i ++ h i)

alike_one : (f : NsName → Bool) (b : Bool) (m : Move) → takes_move f m ≡ b → Alike f b (m ∷ [])
alike_one f b m e = alike_cons f b m [] e (alike_none f b)

-- ---- the moves of one action

module _ (f : NsName → Bool) (n : NsName) where
  alike_put : (d : Document) (o : Option Value) → Alike f (f n) (put_moves n d o)
  alike_put d None = alike_none f (f n)
  alike_put d (Some id) = alike_one f (f n) _ refl

  alike_deltas : (k : Key) (g : Form) (ts : List Touch) → Alike f (f n) (deltas n k g ts)
  alike_deltas k g [] = alike_none f (f n)
  alike_deltas k g (t ∷ ts) = alike_cons f (f n) _ _ refl (alike_deltas k g ts)

  alike_definition : (o : Option Tree) → Alike f (f n) (definition_moves n o)
  alike_definition None = alike_none f (f n)
  alike_definition (Some d) = by (bytes_eq (definition_name d) (codes "_id_"))
    where
      by : (b : Bool) → Alike f (f n) (if b then [] else moves.AddIndex n (definition_name d) d ∷ [])
      by true = alike_none f (f n)
      by false = alike_one f (f n) _ refl

  alike_definitions : (ds : List Document) → Alike f (f n) (joined (map (λ d. definition_moves n (normal_of d)) ds))
  alike_definitions [] = alike_none f (f n)
  alike_definitions (d ∷ ds) = alike_append f (f n) (definition_moves n (normal_of d)) (joined (map (λ d. definition_moves n (normal_of d)) ds)) (alike_definition (normal_of d)) (alike_definitions ds)

-- one step
alike_step : (f : NsName → Bool) (b : Bool) (ms : List Move) → Alike f b ms → Alike f b (joined (ms ∷ []))
alike_step f b ms h = alike_append f b ms [] h (alike_none f b)

abbrev Below : Rules → NsName → Level → Type 0
Below r n a = Alike (takes r) (takes_action r n a) (joined (steps_below n a))

below : (r : Rules) (n : NsName) (a : Level) → IsSingle a → Below r n a
below r n Action-F.Nothing s = alike_none (takes r) (takes r n)
below r n (Action-F.Put d) s = alike_step (takes r) (takes r n) (put_moves n d (id_of d)) (alike_put (takes r) n d (id_of d))
below r n (Action-F.Remove id) s = alike_one (takes r) (takes r n) _ refl
below r n (Action-F.Whole id d) s = alike_one (takes r) (takes r n) _ refl
below r n (Action-F.Delta id g ts) s = alike_step (takes r) (takes r n) _ (alike_deltas (takes r) n _ g ts)
below r n (Action-F.Create o) s = alike_one (takes r) (takes r n) _ refl
below r n Action-F.DropColl s = alike_one (takes r) (takes r n) _ refl
below r n Action-F.DropDb s = refl
below r n (Action-F.AddIndexes ds) s = alike_definitions (takes r) n ds
below r n (Action-F.DropIndex i) s = alike_one (takes r) (takes r n) _ refl
below r n (Action-F.Rename a b) s = alike_none (takes r) (takes r a || takes r b)
below r n (Action-F.Group es) s = absurd s
below r n (Action-F.Other t) s = alike_none (takes r) (takes r n || names_none n)

-- ---- whole entries

config_or : (f : NsName → Bool) (b c : Bool) (steps : List Step) → Alike f b (joined steps) → Alike f b (joined (if c then [] else steps))
config_or f b true steps h = alike_none f b
config_or f b false steps h = h

pub single : (r : Rules) (e : Entry) → IsSingle (out-Action e.action) → Alike (takes r) (takes_entry r e) (moves_of e)
single r e s =
    ap (λ (x : List Step). taken (takes r) (joined x)) (steps_is e)
    ∙ (config_or (takes r) (takes_entry r e) (is_config e.ns) (steps_below e.ns (out-Action e.action)) (below r e.ns (out-Action e.action) s)
    ∙ ap (λ (x : List Step). if takes_entry r e then joined x else []) (sym (steps_is e)))

joined-append : (xs ys : List Step) → joined (xs ++ ys) ≡ joined xs ++ joined ys
joined-append [] ys = refl
joined-append (x ∷ xs) ys = ap (λ (l : List Move). x ++ l) (joined-append xs ys) ∙ sym (append_assoc x (joined xs) (joined ys))

gathered_moves : (es : List Entry) → joined (gathered steps_of es) ≡ gathered moves_of es
gathered_moves [] = refl
gathered_moves (e ∷ es) = joined-append (steps_of e) (gathered steps_of es) ∙ ap (λ (l : List Move). moves_of e ++ l) (gathered_moves es)

-- the moves of the items that are taken
kept_item : (b : Bool) (e : Entry) (es : List Entry) → (if b then moves_of e else []) ++ gathered moves_of es ≡ gathered moves_of (cond b (e ∷ es) es)
kept_item true e es = refl
kept_item false e es = refl

items : (r : Rules) (es : List Entry) → AreSingle es → taken (takes r) (gathered moves_of es) ≡ gathered moves_of (filter (takes_entry r) es)
items r [] s = refl
items r (e ∷ es) s =
    taken-append (takes r) (moves_of e) (gathered moves_of es)
    ∙ (λ i. single r e s.0 i ++ items r es s.1 i)
    ∙ kept_item (takes_entry r e) e (filter (takes_entry r) es)

config_items : (r : Rules) (c : Bool) (es : List Entry) → AreSingle es → taken (takes r) (joined (if c then [] else gathered steps_of es)) ≡ joined (if c then [] else gathered steps_of (filter (takes_entry r) es))
config_items r true es s = refl
config_items r false es s =
    ap (taken (takes r)) (gathered_moves es) ∙ (items r es s ∙ sym (gathered_moves (filter (takes_entry r) es)))

-- a group with these items
abbrev group : Entry → List Entry → Entry
group e es = record { ts = e.ts; ns = e.ns; action = Group es }

group_moves : (e : Entry) (es : List Entry) → moves_of (group e es) ≡ joined (if is_config e.ns then [] else gathered steps_of es)
group_moves e es = ap joined (steps_is (group e es) ∙ ap (λ (a : Level). if is_config e.ns then [] else steps_below e.ns a) (outs-Group es))

moves_at_level : (e : Entry) (a : Level) → out-Action e.action ≡ a → moves_of e ≡ joined (if is_config e.ns then [] else steps_below e.ns a)
moves_at_level e a is = ap joined (steps_is e ∙ ap (λ (x : Level). if is_config e.ns then [] else steps_below e.ns x) is)

whole : (r : Rules) (e : Entry) (a : Level) → IsSingle a → cut_action r e.action a ≡ e.action
whole r e Action-F.Nothing s = refl
whole r e (Action-F.Put d) s = refl
whole r e (Action-F.Remove id) s = refl
whole r e (Action-F.Whole id d) s = refl
whole r e (Action-F.Delta id g ts) s = refl
whole r e (Action-F.Create o) s = refl
whole r e Action-F.DropColl s = refl
whole r e Action-F.DropDb s = refl
whole r e (Action-F.AddIndexes ds) s = refl
whole r e (Action-F.DropIndex i) s = refl
whole r e (Action-F.Rename a b) s = refl
whole r e (Action-F.Group es) s = absurd s
whole r e (Action-F.Other t) s = refl

abbrev Cuts : Rules → Entry → Type 0
Cuts r e = taken (takes r) (moves_of e) ≡ (if takes_entry r e then moves_of (cut_entry r e) else [])

cut_single : (r : Rules) (e : Entry) → IsSingle (out-Action e.action) → Cuts r e
cut_single r e s =
    let same : cut_entry r e ≡ e = λ i. record { ts = e.ts; ns = e.ns; action = whole r e (out-Action e.action) s i } in
    single r e s ∙ ap (λ (x : Entry). if takes_entry r e then moves_of x else []) (sym same)

cut_group : (r : Rules) (e : Entry) (es : List Entry) → out-Action e.action ≡ Action-F.Group es → AreSingle es → Cuts r e
cut_group r e es is s =
    let cut : cut_entry r e ≡ group e (filter (takes_entry r) es) = λ i. record { ts = e.ts; ns = e.ns; action = cut_action r e.action (is i) } in
    let held : takes_entry r e ≡ true = ap (takes_action r e.ns) is in
    ap (taken (takes r)) (moves_at_level e (Action-F.Group es) is)
    ∙ (config_items r (is_config e.ns) es s
    ∙ (sym (ap moves_of cut ∙ group_moves e (filter (takes_entry r) es))
    ∙ ap (λ b. if b then moves_of (cut_entry r e) else []) (sym held)))

abbrev At : Rules → Entry → Level → Type 0
At r e a = out-Action e.action ≡ a → IsFlat a → Cuts r e

by_level : (r : Rules) (e : Entry) (a : Level) → IsSingle a → out-Action e.action ≡ a → Cuts r e
by_level r e a s is = cut_single r e (subst IsSingle (sym is) s)

cut_at : (r : Rules) (e : Entry) (a : Level) → At r e a
cut_at r e Action-F.Nothing is s = by_level r e Action-F.Nothing tt is
cut_at r e (Action-F.Put d) is s = by_level r e (Action-F.Put d) tt is
cut_at r e (Action-F.Remove id) is s = by_level r e (Action-F.Remove id) tt is
cut_at r e (Action-F.Whole id d) is s = by_level r e (Action-F.Whole id d) tt is
cut_at r e (Action-F.Delta id g ts) is s = by_level r e (Action-F.Delta id g ts) tt is
cut_at r e (Action-F.Create o) is s = by_level r e (Action-F.Create o) tt is
cut_at r e Action-F.DropColl is s = by_level r e Action-F.DropColl tt is
cut_at r e Action-F.DropDb is s = by_level r e Action-F.DropDb tt is
cut_at r e (Action-F.AddIndexes ds) is s = by_level r e (Action-F.AddIndexes ds) tt is
cut_at r e (Action-F.DropIndex i) is s = by_level r e (Action-F.DropIndex i) tt is
cut_at r e (Action-F.Rename a b) is s = by_level r e (Action-F.Rename a b) tt is
cut_at r e (Action-F.Group es) is s = cut_group r e es is s
cut_at r e (Action-F.Other t) is s = by_level r e (Action-F.Other t) tt is

pub cut_is_taken : (r : Rules) (e : Entry) → IsFlat (out-Action e.action) → Cuts r e
cut_is_taken r e s = cut_at r e (out-Action e.action) refl s
