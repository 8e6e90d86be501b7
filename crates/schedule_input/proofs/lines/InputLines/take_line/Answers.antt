use Rattle.std.proofs.Common.{◌≡◌, ◌+◌, List, ℕ, [], take, sym, ap, ◌∙◌, subst, arith}
use Rattle.std.specs.Prelude.{◌⊎◌, Err, Ok, IfSome}
use Rattle.schedule_text.specs.declared.fault.LineFault.{LineFault}
use Rattle.schedule_text.specs.Lines.{EndsAt}
use Rattle.schedule_text.specs.Reading.{after_line, with_lines, added, Fails}
use Rattle.schedule_input.specs.Places.{Place}
use Rattle.schedule_input.specs.Inputs.{to_come, Leads, IsLast}
use Rattle.schedule_input.proofs.TextLines.{place, line_leads, line_fails, fails_told, next_of}
use Rattle.schedule_input.proofs.lines.InputLines.take_line.Goals as goal

pub returns-in-Ok-clause-ok : goal.returns-in-Ok-clause-ok
returns-in-Ok-clause-ok g c =
    let s = c.self.inside in
    let n = c.args.count in
    let a = (g.S.Source.end c.args.input.now).bytes in
    let ends = subst (λ (p : Place). EndsAt n p.left ⊎ IsLast n p.left p.end a) (sym c.self.view_is) c.requires.ends in
    let front : take n c.bytes.result.now ≡ take n s.unread = ap (λ (x : List ℕ). take n x) c.bytes.ensures in
    let taken : after_line (with_lines s.reader []) s.number (s.end + n) (take n s.unread) ≡ Ok (with_lines c.line.new.self (added c.in-Ok.line)) = ap (λ (x : List ℕ). after_line (with_lines s.reader []) s.number (s.end + n) x) (sym front) ∙ c.in-Ok.ensures.gives in
    let leads = line_leads s.reader c.line.new.self s.number s.end n s.unread s.unread c.in-Ok.line c.requires.some c.in-Ok.ensures.few_bytes a a (next_of n s.unread s.end a ends) taken in
    let left = subst (λ (x : List ℕ). Leads (added c.in-Ok.line) (place s.reader s.number s.end s.unread) (place c.line.new.self (s.number + 1) (s.end + n) x) a a) (sym c.take.ensures) leads in
    subst (λ (p : Place). Leads (added c.in-Ok.line) p (place c.line.new.self (s.number + 1) (s.end + n) c.take.new.self) a a) c.self.view_is left

pub returns-in-Err-clause-err : goal.returns-in-Err-clause-err
returns-in-Err-clause-err g c =
    let s = c.self.inside in
    let n = c.args.count in
    let a = g.S.Source.end c.args.input.now in
    let ends = subst (λ (p : Place). EndsAt n p.left ⊎ IsLast n p.left p.end a.bytes) (sym c.self.view_is) c.requires.ends in
    let front : take n c.bytes.result.now ≡ take n s.unread = ap (λ (x : List ℕ). take n x) c.bytes.ensures in
    fails_told c.args.self.now c.in-Err.fault c.fault_behind.result a a (g.S.Source.end c.fault_behind.new.input)
    (λ number kind e.
    (let taken : after_line (with_lines s.reader []) s.number (s.end + n) (take n s.unread) ≡ Err (number, kind) = ap (λ (x : List ℕ). after_line (with_lines s.reader []) s.number (s.end + n) x) (sym front) ∙ subst (λ (f : LineFault). Fails f (after_line (with_lines s.reader []) s.number (s.end + n) (take n c.bytes.result.now))) e c.in-Err.ensures.gives in
    subst (λ (p : Place). IfSome a.bytes (λ rest. to_come p rest ≡ Err (number, kind))) c.self.view_is (line_fails s.reader s.number s.end n s.unread s.unread (number, kind) a.bytes a.bytes c.requires.some (next_of n s.unread s.end a.bytes ends) taken)))
    c.fault_behind.ensures.told (omega arith)
