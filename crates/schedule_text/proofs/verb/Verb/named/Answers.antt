use Rattle.std.proofs.Common.{sym}
use Rattle.containers.proofs.Entries.{absent_none}
use Rattle.schedule_text.specs.Words.{verb_of, verb_names}
use Rattle.schedule_text.proofs.verb.Verb.named.Goals as goal

pub returns-in_default : goal.returns-in_default
unfolding verb_of verb_names
returns-in_default c = let h = c.in_default in sym (absent_none c.args.word.now verb_names (h.not-oplog, (h.not-record, (h.not-at, (h.not-create, (h.not-drop, (h.not-dropDatabase, (h.not-rename, (h.not-insert, (h.not-replace, (h.not-update, (h.not-delete, (h.not-createIndex, (h.not-dropIndex, (h.not-dump, (h.not-copy, (h.not-mark, (h.not-tail, (h.not-begin, (h.not-commit, (h.not-abort, tt)))))))))))))))))))))
