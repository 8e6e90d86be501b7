use Rattle.std.proofs.Common.{◌≡◌, ℕ, List, [], ◌∷◌, ◌++◌, sym, ap, ◌∙◌}
use Rattle.bson_value.specs.declared.value.Value.{Value}
use Rattle.doc_path.specs.declared.touches.Touch.{Touch}
use Rattle.doc_path.specs.declared.touches.Touch.TheVariants.{Unset}
use Rattle.doc_path.specs.declared.parts.Part.TheVariants.{Name as name}
use Rattle.entry_model.specs.Edits.{mapped}
use Rattle.entry_model.specs.Reads.{unset_of}
use Rattle.oplog_entry.specs.DiffFields.{at_front}
use Rattle.oplog_entry.proofs.Pushes.{pushed, all_pushed, mapped_twice, append_nil}
use Rattle.oplog_entry.proofs.delta.push_unsets.Goals as goal

pub loop-name-preserved : goal.loop-name-preserved
loop-name-preserved c =
    let where_is : c.in_ok-place.place ≡ (c.args.front.now ++ []) ++ name c.loop-name-item.result.0 ∷ [] = c.in_ok-place.ensures ∙ (λ k. sym (append_nil c.args.front.now) k ++ name (c.in_ok-copy.ensures k) ∷ []) in
    pushed (λ (f : List ℕ × Value). at_front c.args.front.now (unset_of f)) c.entries-name-items.result.now c.loop-name.name-index c.loop-name-item.result c.args.touches.now c.loop-name.touches c.push.new.self
    c.loop-name-test.true c.loop-name-item.is c.loop-name.invariant (c.in_ok-push.ensures.ok ∙ (λ k. c.loop-name.touches ++ Unset (where_is k) ∷ []))

pub returns : goal.returns
returns c =
    all_pushed (λ (f : List ℕ × Value). at_front c.args.front.now (unset_of f)) c.entries-name-items.result.now c.loop-name.name-index c.args.touches.now c.loop-name.touches c.loop-name-test.false c.loop-name.invariant
    ∙ ap (λ (l : List Touch). c.args.touches.now ++ l) (ap (mapped (λ (f : List ℕ × Value). at_front c.args.front.now (unset_of f))) c.entries-name-items.ensures.entries ∙ sym (mapped_twice (at_front c.args.front.now) unset_of c.args.names.now))
