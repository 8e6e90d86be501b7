-- Texts that are put together of pieces.
use Rattle.std.proofs.Common.{ℕ, List, ◌++◌, ◌≡◌, Ok, Err, ◌∙◌, append_assoc}
use Rattle.std.specs.Prelude.{IfOk, Result}

pub weaken : {T E : Type 0} (r : Result T E) (P Q : T → Type 0) → ((x : T) → P x → Q x) → IfOk r P → IfOk r Q
weaken (Ok x) P Q f h = f x h
weaken (Err e) P Q f h = tt

pub four : (d p sp i nl : List ℕ) → d ++ p ++ sp ++ i ++ nl ≡ d ++ (p ++ (sp ++ (i ++ nl)))
four d p sp i nl = append_assoc (d ++ p ++ sp) i nl ∙ (append_assoc (d ++ p) sp (i ++ nl) ∙ append_assoc d p (sp ++ (i ++ nl)))

pub six : (d p sp f s nl : List ℕ) → d ++ p ++ sp ++ f ++ sp ++ s ++ nl ≡ d ++ (p ++ (sp ++ (f ++ (sp ++ (s ++ nl)))))
six d p sp f s nl = append_assoc (d ++ p ++ sp ++ f ++ sp) s nl ∙ (append_assoc (d ++ p ++ sp ++ f) sp (s ++ nl) ∙ four d p sp f (sp ++ (s ++ nl)))
