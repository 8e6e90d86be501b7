-- What is replayed as it comes makes what it makes at the end.
use Rattle.std.proofs.Common.{◌≡◌, Bool, true, false, cond, List, [], ◌∷◌, ◌++◌, length, map as each, refl, sym, ap, subst, ◌∙◌, inl, inr, append_assoc, append-nil, Option}
use Rattle.std.specs.Prelude.{filter, fold, ◌&&◌, ◌||◌, ◌==◌, ◌⊎◌, not, option_map}
use Rattle.std.specs.Ordering.{match_ordering}
use Rattle.std.specs.declared.cmp.Ordering.{Ordering}
use Rattle.std.specs.declared.cmp.Ordering.TheVariants.{Less, Equal, Greater}
use Rattle.std.specs.BTreeMap.{is_at}
use Rattle.std.specs.BTreeSet.{insert_key}
use Rattle.std.specs.FinMap as map
use Rattle.bson_value.specs.declared.namespace.NsName.{NsName}
use Rattle.bson_value.specs.NamespaceOrder.{namespace_cmp}
use Rattle.archive_format.specs.Shapes.{is_oplog}
use Rattle.archive_format.specs.Archive.{Taking, meta, doc, end}
use Rattle.state_model.specs.States.{State}
use Rattle.state_model.specs.Replay.{replay_all}
use Rattle.state_model.proofs.Keys.{ns_is}
use Rattle.state_model.proofs.Windows.{replay_append}
use Rattle.entry_model.specs.declared.entry.Entry.{Entry}
use Rattle.entry_model.specs.declared.entry.Action.{out-Action}
use Rattle.entry_model.specs.Edits.{gathered}
use Rattle.replay.specs.Moves.{moves_of}
use Rattle.replay.specs.Refusals.{first, first_refused}
use Rattle.restore_entries.specs.Documents.{is_of_document}
use Rattle.restore_entries.proofs.Documents.{never_refused}
use Rattle.restore_plan.specs.declared.plan.Plan.{Plan}
use Rattle.restore_plan.specs.declared.fault.RestoreFault.{RestoreFault}
use Rattle.restore_plan.specs.Faults.{of_replay}
use Rattle.restore_plan.specs.Base.{is_of_base, base_step, entries_in, entries, played, restored}
use Rattle.restore_plan.specs.Order.{Lacks, Is_last, EndsAreLast}
use Rattle.restore_plan.specs.Taken.{Contents, nothing, finished, plays_early, is_ended, is_ripe, is_noted, ended_with, with_entry, with_collection, with_taking, first_unknown}
use Rattle.restore_plan.proofs.Tests.{both, no_length}
use Rattle.restore_plan.proofs.Steps.{no_renames}
use Rattle.restore_plan.proofs.Apart.{apart_all}

-- ---- ends

split : (a b : Bool) → (a || b) ≡ true → (a ≡ true) ⊎ (b ≡ true)
split true b e = inl refl
split false b e = inr e

-- a name among others and one more is that one or one of them
inserted : (m n : NsName) (ns : List NsName) → is_ended m (insert_key namespace_cmp ns n) ≡ true → (m ≡ n) ⊎ (is_ended m ns ≡ true)
inserted m n [] e = by (split (is_at (namespace_cmp m) n) false e)
  where
    by : (is_at (namespace_cmp m) n ≡ true) ⊎ (false ≡ true) → (m ≡ n) ⊎ (false ≡ true)
    by (inl is) = inl (ns_is m n is)
    by (inr never) = inr never
inserted m n (x ∷ ns) e = by (namespace_cmp n x) e (inserted m n ns)
  where
    here : (is_at (namespace_cmp m) n ≡ true) ⊎ (is_ended m (x ∷ ns) ≡ true) → (m ≡ n) ⊎ (is_ended m (x ∷ ns) ≡ true)
    here (inl is) = inl (ns_is m n is)
    here (inr later) = inr later

    behind : (b : Bool) → (m ≡ n) ⊎ (is_ended m ns ≡ true) → (m ≡ n) ⊎ ((b || is_ended m ns) ≡ true)
    behind true h = inr refl
    behind false h = h

    later : (b : Bool) → (b ≡ true) ⊎ (is_ended m (insert_key namespace_cmp ns n) ≡ true) → (is_ended m (insert_key namespace_cmp ns n) ≡ true → (m ≡ n) ⊎ (is_ended m ns ≡ true)) → (m ≡ n) ⊎ ((b || is_ended m ns) ≡ true)
    later b (inl is) h = inr (ap (λ k. k || is_ended m ns) is)
    later b (inr more) h = behind b (h more)

    by : (o : Ordering) → is_ended m (match_ordering o (n ∷ (x ∷ ns)) (x ∷ ns) (x ∷ insert_key namespace_cmp ns n)) ≡ true → (is_ended m (insert_key namespace_cmp ns n) ≡ true → (m ≡ n) ⊎ (is_ended m ns ≡ true)) → (m ≡ n) ⊎ (is_ended m (x ∷ ns) ≡ true)
    by Less e h = here (split (is_at (namespace_cmp m) n) (is_ended m (x ∷ ns)) e)
    by Equal e h = inr e
    by Greater e h = later (is_at (namespace_cmp m) x) (split (is_at (namespace_cmp m) x) (is_ended m (insert_key namespace_cmp ns n)) e) h

-- ---- what comes of contents, where these entries and these takings follow

module _ (p : Plan) where
  -- the state, where all entries come last
  abbrev made : Contents → List Entry → List Taking → State
  made c es ts = played (c.entries ++ es) (fold (base_step p) c.state (filter (is_of_base p) ts))

  abbrev unknown : Contents → List Entry → Option RestoreFault
  unknown c es = first_unknown (c.entries ++ es)

  -- nothing comes of a namespace that was ended, and no other one gets its name
  abbrev Is_over : List NsName → List Taking → Type 0
  Is_over ns ts = (n : NsName) → is_ended n ns ≡ true → (p.filter.renames ≡ []) × Lacks n ts

  abbrev Same : Contents → List Entry → List Taking → Contents → List Entry → List Taking → Type 0
  Same c es ts d fs us = (made c es ts ≡ made d fs us) × (unknown c es ≡ unknown d fs)

  -- ---- one entry more

  abbrev replayed : Contents → Entry → Contents
  replayed c e = record c { state = replay_all (moves_of e) c.state }

  abbrev waiting : Contents → Entry → Contents
  waiting c e = record c { entries = c.entries ++ (e ∷ []) }

  ripe : (c : Contents) (e : Entry) (es : List Entry) (ts : List Taking) → (length c.entries == 0) ≡ true → is_of_document (out-Action e.action) ≡ true → p.filter.renames ≡ [] → Lacks e.ns ts → Same (replayed c e) es ts c (e ∷ es) ts
  ripe c e es ts none of_document stays lacks =
      let empty : c.entries ≡ [] = no_length c.entries none in
      let rest : List Taking = filter (is_of_base p) ts in (
        ap (λ (l : List Entry). played (l ++ es) (fold (base_step p) (replay_all (moves_of e) c.state) rest)) empty
            ∙ (ap (played es) (apart_all p e ts c.state stays of_document lacks)
            ∙ (sym (replay_append (moves_of e) (gathered moves_of es) (fold (base_step p) c.state rest))
            ∙ ap (λ (l : List Entry). played (l ++ (e ∷ es)) (fold (base_step p) c.state rest)) (sym empty))),
        ap (λ (l : List Entry). first_unknown (l ++ es)) empty
            ∙ (ap (λ o. option_map of_replay (first (o ∷ each first_refused es))) (sym (never_refused e of_document))
            ∙ ap (λ (l : List Entry). first_unknown (l ++ (e ∷ es))) (sym empty)),
      )

  waits : (c : Contents) (e : Entry) (es : List Entry) (ts : List Taking) → Same (waiting c e) es ts c (e ∷ es) ts
  waits c e es ts =
      let same : (c.entries ++ (e ∷ [])) ++ es ≡ c.entries ++ (e ∷ es) = append_assoc c.entries (e ∷ []) es in
      (ap (λ l. played l (fold (base_step p) c.state (filter (is_of_base p) ts))) same, ap first_unknown same)

  one : (c : Contents) (e : Entry) (es : List Entry) (ts : List Taking) (b : Bool) → is_ripe c e ≡ b → Is_over c.ended ts → Same (cond b (replayed c e) (waiting c e)) es ts c (e ∷ es) ts
  one c e es ts true is over =
      let h = both (length c.entries == 0 && is_of_document (out-Action e.action)) (is_ended e.ns c.ended) is in
      let k = both (length c.entries == 0) (is_of_document (out-Action e.action)) h.0 in
      let o = over e.ns h.1 in
      ripe c e es ts k.0 k.1 o.0 o.1
  one c e es ts false is over = waits c e es ts

  same_ends : (c : Contents) (e : Entry) (b : Bool) → (cond b (replayed c e) (waiting c e)).ended ≡ c.ended
  same_ends c e true = refl
  same_ends c e false = refl

  over_from : (ns ms : List NsName) (ts : List Taking) → ms ≡ ns → Is_over ns ts → Is_over ms ts
  over_from ns ms ts e over n is = over n (ap (is_ended n) (sym e) ∙ is)

  all : (xs : List Entry) (c : Contents) (es : List Entry) (ts : List Taking) → Is_over c.ended ts → Same (fold with_entry c xs) es ts c (xs ++ es) ts
  all [] c es ts over = (refl, refl)
  all (x ∷ xs) c es ts over =
      let first_one = one c x (xs ++ es) ts (is_ripe c x) refl over in
      let more = all xs (with_entry c x) es ts (over_from c.ended (with_entry c x).ended ts (same_ends c x (is_ripe c x)) over) in
      (more.0 ∙ first_one.0, more.1 ∙ first_one.1)

  all_ends : (xs : List Entry) (c : Contents) → (fold with_entry c xs).ended ≡ c.ended
  all_ends [] c = refl
  all_ends (x ∷ xs) c = all_ends xs (with_entry c x) ∙ same_ends c x (is_ripe c x)

  -- ---- one taking more

  stepped : (b : Bool) (t : Taking) (s : State) (ts : List Taking) → fold (base_step p) (cond b (base_step p s t) s) ts ≡ fold (base_step p) s (cond b (t ∷ ts) ts)
  stepped true t s ts = refl
  stepped false t s ts = refl

  noted : (b : Bool) (c : Contents) (n m : NsName) (ts : List Taking) → is_noted p c.state n ≡ b → Is_over c.ended (end n ∷ ts) → Lacks n ts → is_ended m (cond b (insert_key namespace_cmp c.ended n) c.ended) ≡ true → (p.filter.renames ≡ []) × Lacks m ts
  noted true c n m ts is over last e = by (inserted m n c.ended e)
    where
      by : (m ≡ n) ⊎ (is_ended m c.ended ≡ true) → (p.filter.renames ≡ []) × Lacks m ts
      by (inl same) = (no_renames p (both (not (is_oplog n)) (plays_early p) (both (not (is_oplog n) && plays_early p) (map.contains_key c.state n) is).0).1, subst (λ k. Lacks k ts) (sym same) last)
      by (inr before) = let o = over m before in (o.0, o.1.1)
  noted false c n m ts is over last e = let o = over m e in (o.0, o.1.1)

  over_after : (c : Contents) (t : Taking) (ts : List Taking) → Is_over c.ended (t ∷ ts) → Is_last t ts → Is_over (ended_with p c t) ts
  over_after c (meta n text) ts over last m e = let o = over m e in (o.0, o.1.1)
  over_after c (doc n b) ts over last m e = let o = over m e in (o.0, o.1.1)
  over_after c (end n) ts over last m e = noted (is_noted p c.state n) c n m ts refl over last e

  step : (c : Contents) (t : Taking) (ts : List Taking) → Is_over (ended_with p c t) ts → Same (with_taking p c t) (entries p ts) ts c (entries p (t ∷ ts)) (t ∷ ts)
  step c t ts over =
      let more = all (entries_in p t) (with_collection p c t) (entries p ts) ts over in
      (more.0 ∙ ap (played (c.entries ++ entries p (t ∷ ts))) (stepped (is_of_base p t) t c.state (filter (is_of_base p) ts)), more.1)

  -- ---- all takings

  whole : (ts : List Taking) (c : Contents) → EndsAreLast ts → Is_over c.ended ts → Same (fold (with_taking p) c ts) [] [] c (entries p ts) ts
  whole [] c last over = (refl, refl)
  whole (t ∷ ts) c last over =
      let behind : Is_over (ended_with p c t) ts = over_after c t ts over last.0 in
      let now = step c t ts behind in
      let more = whole ts (with_taking p c t) last.1 (over_from (ended_with p c t) (with_taking p c t).ended ts (all_ends (entries_in p t) (with_collection p c t)) behind) in
      (more.0 ∙ now.0, more.1 ∙ now.1)

-- where each end is the last taking of its namespace, what waits makes of the state what all entries make of the base
pub nothing_missed : (p : Plan) (ts : List Taking) (c : Contents) → c ≡ fold (with_taking p) nothing ts → EndsAreLast ts → (finished c ≡ restored p ts) × (first_unknown c.entries ≡ first_unknown (entries p ts))
nothing_missed p ts c is last =
    let all_of = whole p ts nothing last (λ n never. absurd cc) in (
      ap finished is ∙ (ap (λ l. played l (fold (with_taking p) nothing ts).state) (sym (append-nil (fold (with_taking p) nothing ts).entries)) ∙ all_of.0),
      ap (λ (k : Contents). first_unknown k.entries) is ∙ (ap first_unknown (sym (append-nil (fold (with_taking p) nothing ts).entries)) ∙ all_of.1),
    )
