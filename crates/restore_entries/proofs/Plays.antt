-- Entries that are replayed, one behind the other.
use Rattle.std.proofs.Common.{◌≡◌, ℕ, ◌+◌, ◌<◌, List, [], ◌∷◌, ◌++◌, length, map, take, drop, get_or, sym, ap, ◌∙◌, append_assoc, append-nil, Option, None}
use Rattle.std.proofs.lemmas.List.{take_more, drop_more}
use Rattle.state_model.specs.States.{State}
use Rattle.state_model.specs.Moves.{Move}
use Rattle.state_model.specs.Replay.{replay_all}
use Rattle.state_model.proofs.Windows.{replay_append}
use Rattle.entry_model.specs.declared.entry.Entry.{Entry}
use Rattle.entry_model.specs.Edits.{gathered}
use Rattle.replay.specs.declared.fault.ReplayFault.{ReplayFault}
use Rattle.replay.specs.Refusals.{first, first_refused}
use Rattle.replay.specs.Moves.{moves_of}

gathered-push : (es : List Entry) (e : Entry) → gathered moves_of (es ++ (e ∷ [])) ≡ gathered moves_of es ++ moves_of e
gathered-push [] e = append-nil (moves_of e)
gathered-push (x ∷ es) e = ap (λ (l : List Move). moves_of x ++ l) (gathered-push es e) ∙ sym (append_assoc (moves_of x) (gathered moves_of es) (moves_of e))

module _ (es : List Entry) (i : ℕ) (e : Entry) (within : i < length es) (is : e ≡ get_or es i e) where
  pub played_more : (s t u : State) → t ≡ replay_all (gathered moves_of (take i es)) s → u ≡ replay_all (moves_of e) t → u ≡ replay_all (gathered moves_of (take (i + 1) es)) s
  played_more s t u before now =
      let front : take (i + 1) es ≡ take i es ++ (e ∷ []) = take_more es i e within ∙ ap (λ (x : Entry). take i es ++ (x ∷ [])) (sym is) in
      now ∙ ap (replay_all (moves_of e)) before
      ∙ sym (replay_append (gathered moves_of (take i es)) (moves_of e) s)
      ∙ ap (λ (ms : List Move). replay_all ms s) (sym (ap (gathered moves_of) front ∙ gathered-push (take i es) e))

  pub none_more : (o : Option ReplayFault) → o ≡ first (map first_refused (drop i es)) → first_refused e ≡ None → o ≡ first (map first_refused (drop (i + 1) es))
  none_more o before none =
      let rest : drop i es ≡ e ∷ drop (i + 1) es = drop_more es i e within ∙ ap (λ (x : Entry). x ∷ drop (i + 1) es) (sym is) in
      before ∙ ap (λ l. first (map first_refused l)) rest ∙ ap (λ (x : Option ReplayFault). first (x ∷ map first_refused (drop (i + 1) es))) none
