use Rattle.tools_words.specs.Words.{meaning_of, texts_of}
use Rattle.tools_cli.proofs.Due.{memory_says}
use Rattle.tools_cli.proofs.top.run.Goals as goal

pub returns-in-Err-NoMemory : goal.returns-in-Err-NoMemory
returns-in-Err-NoMemory g c = memory_says (meaning_of (texts_of c.args.words.now)) (g.S.Source.end c.args.input.now) (g.K.Sink.end c.args.output.now) (g.R.Sink.end c.args.report.now)
