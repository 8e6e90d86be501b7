use Rattle.std.proofs.Common.{◌≡◌, ℕ, List, length, refl, sym, ap, subst, ◌∙◌, rules, None}
use Rattle.std.specs.Prelude.{OnOk, OnErr}
use Rattle.std.specs.Option.{option_copied}
use Rattle.std.specs.FinMap as map
use Rattle.std.proofs.KnownBytes.{Appends-trans, Appends-nil}
use Rattle.std.specs.Io.KnownBytes.{Appends}
use Rattle.tool_io.specs.Causes.{AppendsFront}
use Rattle.coll_state.specs.Rows.{Table}
use Rattle.state_listing.proofs.Fronts.{on_ok, on_err}
use Rattle.state_listing.proofs.Texts.{collection_parts, collection_none, has_both}
use Rattle.state_listing.proofs.listing.list_collection.Goals as goal
use Rattle.tool_io.proofs.Writes.{front_next, front_first}

pub returns-in-Ok-clause-ok : goal.returns-in-Ok-clause-ok
returns-in-Ok-clause-ok g c =
    let before = (g.K.Sink.end c.args.sink.now).bytes in
    let mid = (g.K.Sink.end c.write_head.new.sink).bytes in
    let after = (g.K.Sink.end c.list_contents.new.sink).bytes in
    let parts = collection_parts c.args.form c.args.state.now c.args.ns.now c.in-Some.defs.now c.as_slice.result.now c.in-Some-options.options.now c.as_str.result.now c.as_str-2.result.now c.in-Some-count.count c.args.counts.now
    c.in-Some.ensures.definitions c.in-Some.ensures.names c.in-Some-options.ensures c.as_str.ensures c.as_str-2.ensures (c.in-Some-count.ensures ∙ ap length c.documents.ensures) c.requires c.as_slice.ensures in
    subst (λ (t : List ℕ). OnOk c.list_contents.result (Appends before after t)) (sym parts) (on_ok c.list_contents.result (λ w. Appends-trans before mid after _ _ c.in-Ok.ensures.ok w) c.list_contents.ensures.ok)

pub returns-in-Ok-clause-err : goal.returns-in-Ok-clause-err
returns-in-Ok-clause-err g c =
    let before = (g.K.Sink.end c.args.sink.now).bytes in
    let mid = (g.K.Sink.end c.write_head.new.sink).bytes in
    let after = (g.K.Sink.end c.list_contents.new.sink).bytes in
    let parts = collection_parts c.args.form c.args.state.now c.args.ns.now c.in-Some.defs.now c.as_slice.result.now c.in-Some-options.options.now c.as_str.result.now c.as_str-2.result.now c.in-Some-count.count c.args.counts.now
    c.in-Some.ensures.definitions c.in-Some.ensures.names c.in-Some-options.ensures c.as_str.ensures c.as_str-2.ensures (c.in-Some-count.ensures ∙ ap length c.documents.ensures) c.requires c.as_slice.ensures in
    subst (λ (t : List ℕ). OnErr c.list_contents.result (AppendsFront before after t)) (sym parts) (on_err c.list_contents.result (λ w. front_next before mid after _ _ c.in-Ok.ensures.ok w) c.list_contents.ensures.err)

pub returns-in-Err-clause-err : goal.returns-in-Err-clause-err
returns-in-Err-clause-err g c =
    let before = (g.K.Sink.end c.args.sink.now).bytes in
    let mid = (g.K.Sink.end c.write_head.new.sink).bytes in
    let parts = collection_parts c.args.form c.args.state.now c.args.ns.now c.in-Some.defs.now c.in-Some.defs.now c.in-Some-options.options.now c.as_str.result.now c.as_str-2.result.now c.in-Some-count.count c.args.counts.now
    c.in-Some.ensures.definitions c.in-Some.ensures.names c.in-Some-options.ensures c.as_str.ensures c.as_str-2.ensures (c.in-Some-count.ensures ∙ ap length c.documents.ensures) c.requires refl in
    subst (λ (t : List ℕ). AppendsFront before mid t) (sym parts) (front_first before mid _ _ c.in-Err.ensures.err)

pub returns-in_default-clause-ok : goal.returns-in_default-clause-ok
returns-in_default-clause-ok g c =
    let before = (g.K.Sink.end c.args.sink.now).bytes in
    let none : c.indexes.result ≡ None = search rules in
    subst (Appends before before) (sym (collection_none c.args.form c.args.state.now c.args.ns.now (sym (ap option_copied none) ∙ c.indexes.ensures.definitions))) (Appends-nil before)

pub unreachable-requires : goal.unreachable-requires
unreachable-requires g c =
    let none : c.options.result ≡ None = search rules in
    has_both (λ (t : Table). map.values t.indexes) (λ (t : Table). t.options) (map.get c.args.state.now.tables c.args.ns.now) c.in-Some.defs.now c.in-Some.ensures.definitions (sym (ap option_copied none) ∙ c.options.ensures)
