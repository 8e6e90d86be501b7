use Rattle.std.proofs.Common.{ℕ, Bool, List, [], ◌∷◌, ◌++◌, sym, ap, subst, ◌∙◌}
use Rattle.std.specs.Str.Iter.{chars_rest}
use Rattle.ns_patterns.specs.Literals.{literals_of, literals_from}
use Rattle.ns_patterns.proofs.Reading.{Left, after_escape, after_char, after_star, after_backslash, ends_escaped, all_of}
use Rattle.ns_patterns.proofs.pattern.Pattern.parse.Goals as goal

pub chars-preserved-then-escaped : goal.chars-preserved-then-escaped
chars-preserved-then-escaped c =
    let escaped = subst (λ (b : Bool). Left (literals_of c.args.text.now) c.chars.behind c.chars.literal (literals_from b (chars_rest c.chars.chars))) c.if-escaped.true c.chars.invariant in
    after_escape (literals_of c.args.text.now) c.chars.behind c.chars.literal c.in-Some.c _ _ c.push.new.self escaped c.in-Some.ensures.steps.0 c.in_ok-push.ensures.ok

pub chars-preserved-in-Continue-branch-2 : goal.chars-preserved-in-Continue-branch-2
chars-preserved-in-Continue-branch-2 c =
    let plain = subst (λ (b : Bool). Left (literals_of c.args.text.now) c.chars.behind c.chars.literal (literals_from b (chars_rest c.chars.chars))) c.if-escaped.false c.chars.invariant in
    subst (λ (b : Bool). Left (literals_of c.args.text.now) c.push-then-c-eq42.new.self c.replace.new.dest (literals_from b (chars_rest c.next.new.self))) (sym c.if-escaped.false)
    (after_star (literals_of c.args.text.now) c.chars.behind c.chars.literal c.in-Some.c _ _ c.push-then-c-eq42.new.self c.replace.new.dest plain c.if-c-eq42.true c.in-Some.ensures.steps.0
    (c.in_ok-push-2.ensures.ok ∙ ap (λ (l : List ℕ). c.chars.behind ++ l ∷ []) c.replace.ensures.value) (c.replace.ensures.after ∙ c.new.ensures))

pub chars-preserved-then-c-eq92 : goal.chars-preserved-then-c-eq92
chars-preserved-then-c-eq92 c =
    let plain = subst (λ (b : Bool). Left (literals_of c.args.text.now) c.chars.behind c.chars.literal (literals_from b (chars_rest c.chars.chars))) c.if-escaped.false c.chars.invariant in
    after_backslash (literals_of c.args.text.now) c.chars.behind c.chars.literal c.in-Some.c _ _ plain c.if-c-eq92.true c.in-Some.ensures.steps.0

pub chars-preserved : goal.chars-preserved
chars-preserved c =
    let plain = subst (λ (b : Bool). Left (literals_of c.args.text.now) c.chars.behind c.chars.literal (literals_from b (chars_rest c.chars.chars))) c.if-escaped.false c.chars.invariant in
    subst (λ (b : Bool). Left (literals_of c.args.text.now) c.chars.behind c.push-else-c-eq92.new.self (literals_from b (chars_rest c.next.new.self))) (sym c.if-escaped.false)
    (after_char (literals_of c.args.text.now) c.chars.behind c.chars.literal c.in-Some.c _ _ c.push-else-c-eq92.new.self plain c.if-c-eq42.false c.if-c-eq92.false c.in-Some.ensures.steps.0 c.in_ok-push-3.ensures.ok)

pub returns-then-escaped-2 : goal.returns-then-escaped-2
returns-then-escaped-2 c =
    let escaped = subst (λ (b : Bool). Left (literals_of c.args.text.now) c.chars.behind c.chars.literal (literals_from b (chars_rest c.chars.chars))) c.if-escaped-2.true c.chars.invariant in
    sym (ends_escaped (literals_of c.args.text.now) c.chars.behind c.chars.literal (chars_rest c.chars.chars) escaped c.in_default.ensures.steps.0.0)

pub returns : goal.returns
returns c =
    let plain = subst (λ (b : Bool). Left (literals_of c.args.text.now) c.chars.behind c.chars.literal (literals_from b (chars_rest c.chars.chars))) c.if-escaped-2.false c.chars.invariant in
    sym (all_of (literals_of c.args.text.now) c.chars.behind c.chars.literal (chars_rest c.chars.chars) c.push-2.new.self c.remove-first.result c.remove-first.new.self plain c.in_default.ensures.steps.0.0 c.in_ok-push-4.ensures.ok c.remove-first.ensures.old c.remove-first.ensures.new)
