use Rattle.std.proofs.Common.{◌≡◌, sym, ap, ◌∙◌, subst, OnOk, List, ℕ}
use Rattle.doc_path.specs.declared.parts.Part.{Part}
use Rattle.doc_path.specs.Touch.{key_of}
use Rattle.doc_path.proofs.Steps.{on_ok}
use Rattle.update_ops.specs.Keys.{HasNoZero}
use Rattle.update_ops.proofs.Zeros.{no_zero}
use Rattle.update_ops.proofs.place_keys.push_part.Goals as goal

pub returns-in-Name-clause-clean : goal.returns-in-Name-clause-clean
returns-in-Name-clause-clean c = on_ok c.push_ended.result (λ e. subst (λ (p : Part). HasNoZero (key_of p)) (sym c.in-Name.is) (no_zero c.in-Name.name c.as_str.ensures.no_zero)) c.push_ended.ensures
