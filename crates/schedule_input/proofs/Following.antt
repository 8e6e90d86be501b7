-- What was read of an input line by line is read of the whole.
use Rattle.std.proofs.Common.{◌≡◌, ℕ, ◌≤◌, List, [], ◌++◌, refl, sym, ap, ◌∙◌, append-nil, arith}
use Rattle.std.specs.Prelude.{Option, Some, None, Ok, Err, IfSome}
use Rattle.schedule_text.specs.declared.reader.LineReader.{LineReader}
use Rattle.schedule_text.specs.declared.schedule.NumberedLine.{NumberedLine}
use Rattle.schedule_text.specs.Reading.{Reader, Bad, KeepsCap, at_start, with_lines, schedule_of, schedule_left, behind_lines}
use Rattle.schedule_text.proofs.Left.{all_left, behind_none, behind_more}
use Rattle.schedule_input.specs.Places.{Place}
use Rattle.schedule_input.specs.Inputs.{to_come, schedule_so_far, Leads, IsOver, Led}

-- ---- the cap

pub same_cap : (r : LineReader) → KeepsCap r r
same_cap r = record { begun = λ e. e; cap = λ e. refl; bytes = λ e. refl; least = λ h. h; most = λ h. h }

pub both_keep : (a b c : LineReader) → KeepsCap a b → KeepsCap b c → KeepsCap a c
both_keep a b c k l =
    record {
      begun = λ e. l.begun (k.begun e);
      cap = λ e. l.cap (k.begun e) ∙ k.cap e;
      bytes = λ e. l.bytes (k.begun e) ∙ k.bytes e;
      least = λ h. l.least (k.least h);
      most = λ h. l.most (k.most h);
    }

pub starts_least : (r : LineReader) → with_lines r [] ≡ at_start → 1 ≤ r.cap
starts_least r e = omega (arith, ap (λ (s : Reader). s.cap) e)

pub starts_most : (r : LineReader) → with_lines r [] ≡ at_start → r.cap ≤ 1000000
starts_most r e = omega (arith, ap (λ (s : Reader). s.cap) e)

-- ---- line after line

pub leads_none : (p q r : Place) (line : List NumberedLine) (a b c : Option (List ℕ)) → Leads [] p q a b → Leads line q r b c → Leads line p r a c
leads_none p q r line None b c k l = tt
leads_none p q r line (Some x) None c k l = absurd k
leads_none p q r line (Some x) (Some y) None k l = absurd l
leads_none p q r line (Some x) (Some y) (Some z) k l = k ∙ (behind_none (to_come q y) ∙ l)

pub over_none : (p q r : Place) (a b c : Option (List ℕ)) → Leads [] p q a b → IsOver q r b c → IsOver p r a c
over_none p q r None b c k l = tt
over_none p q r (Some x) None c k l = absurd k
over_none p q r (Some x) (Some y) c k l = (l.0, k ∙ (behind_none (to_come q y) ∙ l.1))

pub bad_none : (p q : Place) (a b : Option (List ℕ)) (bad : Bad) → Leads [] p q a b → IfSome b (λ rest. to_come q rest ≡ Err bad) → IfSome a (λ rest. to_come p rest ≡ Err bad)
bad_none p q None b bad k l = tt
bad_none p q (Some x) None bad k l = absurd k
bad_none p q (Some x) (Some y) bad k l = k ∙ (behind_none (to_come q y) ∙ l)

pub nothing_led : (p : Place) (a : Option (List ℕ)) → Leads [] p p a a
nothing_led p None = tt
nothing_led p (Some x) = sym (behind_none (to_come p x))

-- ---- from the first line on

pub led_first : (p : Place) (a : Option (List ℕ)) → with_lines p.reader [] ≡ at_start → p.number ≡ 1 → p.end ≡ 0 → p.left ≡ [] → Led [] p a a
led_first p None e f g h = tt
led_first p (Some all) e f g h =
    all_left p.reader all e
    ∙ (ap (λ (n : ℕ). schedule_left p.reader n 0 all) (sym f)
    ∙ (ap (λ (n : ℕ). schedule_left p.reader p.number n all) (sym g)
    ∙ (ap (λ (x : List ℕ). schedule_left p.reader p.number p.end (x ++ all)) (sym h) ∙ sym (behind_none (to_come p all)))))

pub led_more : (lines more : List NumberedLine) (p q : Place) (a b c : Option (List ℕ)) → Led lines p a b → Leads more p q b c → Led (lines ++ more) q a c
led_more lines more p q None b c k l = tt
led_more lines more p q (Some x) None c k l = absurd k
led_more lines more p q (Some x) (Some y) None k l = absurd l
led_more lines more p q (Some x) (Some y) (Some z) k l = k ∙ (ap (behind_lines lines) l ∙ behind_more lines more (to_come q z))

pub led_over : (lines : List NumberedLine) (p q : Place) (a b c : Option (List ℕ)) → Led lines p a b → IsOver p q b c → IfSome a (λ all. schedule_of all ≡ Ok (schedule_so_far q.reader lines)) × IfSome a (λ all. c ≡ Some [])
led_over lines p q None b c k l = (tt, tt)
led_over lines p q (Some x) None c k l = absurd k
led_over lines p q (Some x) (Some y) c k l =
    (k ∙ (ap (behind_lines lines) l.1 ∙ ap (λ (ls : List NumberedLine). Ok (schedule_so_far q.reader ls)) (append-nil lines)), l.0)

pub led_bad : (lines : List NumberedLine) (p : Place) (a b : Option (List ℕ)) (bad : Bad) → Led lines p a b → IfSome b (λ rest. to_come p rest ≡ Err bad) → IfSome a (λ all. schedule_of all ≡ Err bad)
led_bad lines p None b bad k l = tt
led_bad lines p (Some x) None bad k l = absurd k
led_bad lines p (Some x) (Some y) bad k l = k ∙ ap (behind_lines lines) l
