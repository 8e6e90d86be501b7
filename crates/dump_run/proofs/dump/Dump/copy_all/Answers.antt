use Rattle.std.proofs.Common.{◌≡◌, ◌∙◌, ◌+◌, ◌-◌, ◌<◌, List, length, drop, Some, None, refl, sym, ap, subst, arith}
use Rattle.std.specs.Prelude.{slice_get}
use Rattle.std.specs.FinMap as map
use Rattle.bson_value.specs.declared.namespace.NsName.{NsName}
use Rattle.history_model.specs.Stages.{Stage}
use Rattle.store_core.specs.Stores.{StandsAt}
use Rattle.dump_run.specs.declared.fault.DumpFault.TheVariants as faults
use Rattle.dump_run.specs.Dumps.{Dumping}
use Rattle.dump_run.specs.Calls.{failed_with}
use Rattle.dump_run.proofs.Finishing.{Naming, naming, name_there, no_name, name_on, name_fails, name_starves, names_end}
use Rattle.dump_run.proofs.dump.Dump.copy_all.Goals as goal

pub names-init : goal.names-init
names-init g c = record {
  going = λ e. e;
  names = refl;
  later = omega arith;
  copies = λ k r ok st m. naming k (map.keys c.args.self.now.state.cursors) r c.args.self.now (g.K.Sink.end c.args.sink.now).bytes m;
}

pub returns-in-Err-copy_named-clause-does : goal.returns-in-Err-copy_named-clause-does
returns-in-Err-copy_named-clause-does g c = λ k r ok st m.
    let ks = map.keys c.args.self.now.state.cursors in
    let there : Some c.in-Ok-Some.ns ≡ slice_get (map.keys c.args.self.now.state.cursors) c.names.at =
    sym c.in-Ok-Some.field-0-is ∙ (c.in-Ok-Some.ensures.name ∙ (ap (λ (z : Dumping). slice_get (map.keys z.state.cursors) c.names.at) c.self.view_is ∙ ap (λ (z : List NsName). slice_get z c.names.at) c.names.invariant.names)) in
    let first = g.K.Sink.end c.args.sink.now in
    let before = g.K.Sink.end c.names.sink in
    let t = subst (λ (z : List NsName). Naming k ks z r c.names.self first.bytes before.bytes) (name_there ks c.names.at c.in-Ok-Some.ns there).0 (c.names.invariant.copies k r ok st m) in
    name_fails k ks r c.names.self c.copy_named.new.self first before (g.K.Sink.end c.copy_named.new.sink) c.in-Ok-Some.ns (drop (c.names.at + 1) ks) t c.in-Err-copy_named.fault
    (c.in-Err-copy_named.ensures.does k t.at (t.later.good ok) (subst (λ (z : Stage). StandsAt c.args.store.now z) (sym t.later.stage) st) t.meets)

pub names-smaller : goal.names-smaller
names-smaller g c =
    let ks = map.keys c.args.self.now.state.cursors in
    let there : Some c.in-Ok-Some.ns ≡ slice_get (map.keys c.args.self.now.state.cursors) c.names.at =
    sym c.in-Ok-Some.field-0-is ∙ (c.in-Ok-Some.ensures.name ∙ (ap (λ (z : Dumping). slice_get (map.keys z.state.cursors) c.names.at) c.self.view_is ∙ ap (λ (z : List NsName). slice_get z c.names.at) c.names.invariant.names)) in
    let lt = (name_there ks c.names.at c.in-Ok-Some.ns there).1 in
    let less : length (map.keys c.args.self.now.state.cursors) - (c.names.at + 1) < length (map.keys c.args.self.now.state.cursors) - c.names.at = omega (arith, lt) in
    less

pub names-preserved : goal.names-preserved
names-preserved g c =
    let i = c.names.invariant in
    let x = c.in-Ok.ensures in
    let ks = map.keys c.args.self.now.state.cursors in
    let there : Some c.in-Ok-Some.ns ≡ slice_get (map.keys c.args.self.now.state.cursors) c.names.at =
    sym c.in-Ok-Some.field-0-is ∙ (c.in-Ok-Some.ensures.name ∙ (ap (λ (z : Dumping). slice_get (map.keys z.state.cursors) c.names.at) c.self.view_is ∙ ap (λ (z : List NsName). slice_get z c.names.at) c.names.invariant.names)) in
    let first = g.K.Sink.end c.args.sink.now in
    let before = g.K.Sink.end c.names.sink in
    record {
      going = λ e. x.going (i.going e);
      names = x.names ∙ i.names;
      later = omega (arith, i.later, x.later);
      copies = λ k r ok st m.
          let t = subst (λ (z : List NsName). Naming k ks z r c.names.self first.bytes before.bytes) (name_there ks c.names.at c.in-Ok-Some.ns there).0 (i.copies k r ok st m) in
          name_on k ks r c.names.self c.copy_named.new.self first before (g.K.Sink.end c.copy_named.new.sink) c.in-Ok-Some.ns (drop (c.names.at + 1) ks) t
          (x.does k t.at (t.later.good ok) (subst (λ (z : Stage). StandsAt c.args.store.now z) (sym t.later.stage) st) t.meets);
    }

pub returns-in-Ok-None-clause-does : goal.returns-in-Ok-None-clause-does
returns-in-Ok-None-clause-does g c = λ k r ok st m.
    let ks = map.keys c.args.self.now.state.cursors in
    let there : None ≡ slice_get (map.keys c.args.self.now.state.cursors) c.names.at =
    sym c.in-Ok-None.field-0-is ∙ (c.in-Ok-None.ensures.name ∙ (ap (λ (z : Dumping). slice_get (map.keys z.state.cursors) c.names.at) c.self.view_is ∙ ap (λ (z : List NsName). slice_get z c.names.at) c.names.invariant.names)) in
    let first = g.K.Sink.end c.args.sink.now in
    let before = g.K.Sink.end c.names.sink in
    names_end k ks r c.names.self c.names.self first before before (subst (λ (z : List NsName). Naming k ks z r c.names.self first.bytes before.bytes) (no_name ks c.names.at there) (c.names.invariant.copies k r ok st m))

pub returns-in-Err-clause-does : goal.returns-in-Err-clause-does
returns-in-Err-clause-does g c = λ k r ok st m.
    let ks = map.keys c.args.self.now.state.cursors in
    let first = g.K.Sink.end c.args.sink.now in
    let before = g.K.Sink.end c.names.sink in
    name_starves k ks r c.names.self (failed_with faults.NoMemory c.names.self) first before before (drop c.names.at ks) (c.names.invariant.copies k r ok st m) refl
