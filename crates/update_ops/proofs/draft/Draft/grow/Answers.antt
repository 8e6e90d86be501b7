use Rattle.std.proofs.Common.{◌≡◌, ◌++◌, ◌∷◌, [], ◌+◌, ◌≤◌, ◌<◌, ℕ, List, false, sym, ap, ◌∙◌, subst, OnOk, arith, length, append-nil}
use Rattle.std.specs.Prelude.{Bool, nat_lt, if◌then◌else◌}
use Rattle.std.proofs.lemmas.Grind.{common_steps}
use Rattle.std.proofs.lemmas.List.{length-append}
use Rattle.bson_value.specs.declared.value.Value.{Value, Object}
use Rattle.doc_path.specs.Touch.{limit}
use Rattle.update_model.specs.Steps.{appended}
use Rattle.update_model.specs.Acts.{Act, Steps, Oversized, grown}
use Rattle.update_ops.specs.Drafts.{Does}
use Rattle.update_ops.proofs.draft.Draft.grow.Goals as goal

pub returns : goal.returns
returns c is vs e k = by vs e
  where
    by : (vs : List Value) → c.args.all ≡ is ++ vs → OnOk c.append.result (Does (grown c.args.way c.args.last is vs (Object c.args.self.now.doc)) c.args.self.now c.append.new.self)
    by [] e = absurd (c.if-len-count.false (c.len.ensures ∙ (ap (λ (z : List Value). length z) (e ∙ append-nil is) ∙ sym k)))
    by (a ∷ vs) e =
        let l : length c.args.all ≡ length is + length (a ∷ vs) = ap (λ (z : List Value). length z) e ∙ length-append is (a ∷ vs) in
        let n = c.len-2.ensures in
        let fits : nat_lt limit (length is + length (a ∷ vs)) ≡ false = fits_by (length is + length (a ∷ vs)) (omega arith) in
        subst (λ (b : Bool). OnOk c.append.result (Does (if b then Oversized else Steps (appended c.args.way c.args.last is (a ∷ vs) (Object c.args.self.now.doc))) c.args.self.now c.append.new.self)) (sym fits)
        (c.append.ensures is (a ∷ vs) e k)
      where
        fits_by : (n : ℕ) → n ≤ limit → nat_lt limit n ≡ false
        fits_by n h = grind (arith, common_steps)
