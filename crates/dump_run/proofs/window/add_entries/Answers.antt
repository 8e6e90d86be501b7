use Rattle.std.proofs.Common.{◌≡◌, Some, None, ap, sym, ◌∙◌, arith, true, false, drop, ◌+◌, rules}
use Rattle.std.specs.Prelude.{option_map, slice_get}
use Rattle.history_model.specs.Stages.{earlier}
use Rattle.dump_run.specs.Rings.{until}
use Rattle.dump_run.proofs.Adding.{lt_is, is_within, until_past, until_later, until_next, end_entries, end_last, more_follow, next_entries, next_last}
use Rattle.dump_run.proofs.window.add_entries.Goals as goal

pub returns-then-lt-clause-entries : goal.returns-then-lt-clause-entries
returns-then-lt-clause-entries c =
    let here : Some (c.in-Some.ts, c.in-Some.bytes.now) ≡ slice_get c.args.oplog.now.entries c.entries.at = ap (λ (o : _). option_map (λ e. (e.0, e.1.now)) o) (sym c.in-Some.is) ∙ c.entry.ensures in
    let late : earlier c.args.end c.in-Some.ts ≡ true = sym (lt_is c.args.end c.in-Some.ts) ∙ (sym c.lt.ensures ∙ c.if-lt.true) in
    end_entries c.entries.out _ c.entries.left _ (until_later c.args.end c.args.oplog.now.entries c.entries.at (c.in-Some.ts, c.in-Some.bytes.now) here late) c.entries.invariant.entries

pub returns-then-lt-clause-last : goal.returns-then-lt-clause-last
returns-then-lt-clause-last c =
    let here : Some (c.in-Some.ts, c.in-Some.bytes.now) ≡ slice_get c.args.oplog.now.entries c.entries.at = ap (λ (o : _). option_map (λ e. (e.0, e.1.now)) o) (sym c.in-Some.is) ∙ c.entry.ensures in
    let late : earlier c.args.end c.in-Some.ts ≡ true = sym (lt_is c.args.end c.in-Some.ts) ∙ (sym c.lt.ensures ∙ c.if-lt.true) in
    end_last c.entries.left _ _ (until_later c.args.end c.args.oplog.now.entries c.entries.at (c.in-Some.ts, c.in-Some.bytes.now) here late) c.entries.invariant.last

pub returns-then-left-eq0-clause-last : goal.returns-then-left-eq0-clause-last
returns-then-left-eq0-clause-last c =
    let here : Some (c.in-Some.ts, c.in-Some.bytes.now) ≡ slice_get c.args.oplog.now.entries c.entries.at = ap (λ (o : _). option_map (λ e. (e.0, e.1.now)) o) (sym c.in-Some.is) ∙ c.entry.ensures in
    let early : earlier c.args.end c.in-Some.ts ≡ false = sym (lt_is c.args.end c.in-Some.ts) ∙ (sym c.lt.ensures ∙ c.if-lt.false) in
    more_follow c.entries.left (c.in-Some.ts, c.in-Some.bytes.now) _ _ _ c.if-left-eq0.true (until_next c.args.end c.args.oplog.now.entries c.entries.at (c.in-Some.ts, c.in-Some.bytes.now) here early) c.entries.invariant.last

pub overflow_add-at : goal.overflow_add-at
overflow_add-at c =
    let here : Some (c.in-Some.ts, c.in-Some.bytes.now) ≡ slice_get c.args.oplog.now.entries c.entries.at = ap (λ (o : _). option_map (λ e. (e.0, e.1.now)) o) (sym c.in-Some.is) ∙ c.entry.ensures in
    omega (arith, is_within c.args.oplog.now.entries c.entries.at (c.in-Some.ts, c.in-Some.bytes.now) here, c.len-count.ensures.count, c.len-count.ensures.within.0, c.len-count.ensures.within.1)

pub entries-smaller : goal.entries-smaller
entries-smaller c =
    let here : Some (c.in-Some.ts, c.in-Some.bytes.now) ≡ slice_get c.args.oplog.now.entries c.entries.at = ap (λ (o : _). option_map (λ e. (e.0, e.1.now)) o) (sym c.in-Some.is) ∙ c.entry.ensures in
    omega (arith, is_within c.args.oplog.now.entries c.entries.at (c.in-Some.ts, c.in-Some.bytes.now) here)

pub entries-preserved : goal.entries-preserved
entries-preserved c =
    let here : Some (c.in-Some.ts, c.in-Some.bytes.now) ≡ slice_get c.args.oplog.now.entries c.entries.at = ap (λ (o : _). option_map (λ e. (e.0, e.1.now)) o) (sym c.in-Some.is) ∙ c.entry.ensures in
    let early : earlier c.args.end c.in-Some.ts ≡ false = sym (lt_is c.args.end c.in-Some.ts) ∙ (sym c.lt.ensures ∙ c.if-lt.false) in
    let next = until_next c.args.end c.args.oplog.now.entries c.entries.at (c.in-Some.ts, c.in-Some.bytes.now) here early in
    record {
      entries = next_entries c.entries.out c.push.new.self _ c.entries.left (c.in-Some.ts, c.in-Some.bytes.now) _ (until c.args.end (drop (c.entries.at + 1) c.args.oplog.now.entries)) c.in_ok-of.field-0 c.if-left-eq0.false next c.in_ok-of.ensures c.in_ok-push.ensures.ok c.entries.invariant.entries;
      last = next_last c.entries.left (c.in-Some.ts, c.in-Some.bytes.now) _ (until c.args.end (drop (c.entries.at + 1) c.args.oplog.now.entries)) _ c.if-left-eq0.false next c.entries.invariant.last;
    }

pub returns-clause-entries : goal.returns-clause-entries
returns-clause-entries c =
    let none : c.entry.result ≡ None = search rules in
    end_entries c.entries.out _ c.entries.left _ (until_past c.args.end c.args.oplog.now.entries c.entries.at (ap (λ (o : _). option_map (λ e. (e.0, e.1.now)) o) (sym none) ∙ c.entry.ensures)) c.entries.invariant.entries

pub returns-clause-last : goal.returns-clause-last
returns-clause-last c =
    let none : c.entry.result ≡ None = search rules in
    end_last c.entries.left _ _ (until_past c.args.end c.args.oplog.now.entries c.entries.at (ap (λ (o : _). option_map (λ e. (e.0, e.1.now)) o) (sym none) ∙ c.entry.ensures)) c.entries.invariant.last
