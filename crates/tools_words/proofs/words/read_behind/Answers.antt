use Rattle.std.proofs.Common.{◌≡◌, ◌∷◌, rules, ap, sym, ◌∙◌}
use Rattle.std.specs.Prelude.{None, Ok, Err, fold, string_bytes}
use Rattle.tools_words.specs.Words.{option_at, ordered, step, texts_of}
use Rattle.tools_words.proofs.Stopped.{stops}
use Rattle.tools_words.proofs.words.read_behind.Goals as goal

pub returns-in-None : goal.returns-in-None
returns-in-None c =
    let verb = c.args.verb in
    let given = c.words.given.items in
    let word = string_bytes c.in-Some.word.now in
    let behind = texts_of c.in-Some.behind.now in
    let rest : texts_of c.words.rest.now ≡ word ∷ behind = search rules in
    let none : option_at verb given word ≡ None = search rules in
    ap (ordered verb) (c.words.invariant.same ∙ ap (fold (step verb) (Ok given)) rest) ∙ (stops verb given word behind none ∙ ap Err (sym c.words.invariant.behind))
