use Rattle.std.proofs.Common.{Ok, Err, sym, ◌∙◌, append_assoc}
use Rattle.std.specs.Prelude.{Result, IfOk, codes}
use Rattle.std.specs.Fmt.{decimal}
use Rattle.schedule_dump.proofs.lines.ts_text.Goals as goal

weaken : {T E : Type 0} (r : Result T E) (P Q : T → Type 0) → ((x : T) → P x → Q x) → IfOk r P → IfOk r Q
weaken (Ok x) P Q f h = f x h
weaken (Err e) P Q f h = tt

pub returns : goal.returns
returns c = weaken c.format.result _ _ (λ s h. h ∙ sym (append_assoc (decimal c.args.ts.secs) (codes ":") (decimal c.args.ts.inc))) c.format.ensures.ok
