use Rattle.std.proofs.Common.{◌≡◌, List, [], ◌∷◌, Option, Some, None, refl, ap, sym, ◌∙◌, subst, arith}
use Rattle.std.specs.Prelude.{option_map, map as each}
use Rattle.std.specs.Option.{option_copied}
use Rattle.std.proofs.lemmas.Grind.{common_steps}
use Rattle.state_model.specs.Keys.{Key}
use Rattle.std.specs.FinMap as map
use Rattle.bson_value.specs.declared.namespace.NsName.{NsName}
use Rattle.json_tree.specs.declared.tree.Tree.{Tree}
use Rattle.coll_state.specs.Rows.{Table, Rows, AreSound}
use Rattle.index_keys.specs.Keys.{Fields, Docs}
use Rattle.index_build.specs.Counting.{held}
use Rattle.index_build.specs.Owned.{Holding}
use Rattle.history_model.specs.Indexes.{IndexesHold}
use Rattle.history_model.specs.Refusals.{rows_in, definitions_in}
use Rattle.command_refusals.specs.Keyed.{AreKeyed, documents}
use Rattle.command_refusals.proofs.RowTests.{defs_of}
use Rattle.kept_indexes.specs.Kept.{keyed, plans_of, AreOver, AreBuilt}
use Rattle.kept_indexes.proofs.Owned.{keyed_paired}
use Rattle.kept_indexes.proofs.indexes.indexes_of.Goals as goal

same_defs : (a b : List Tree) → Some a ≡ Some b → a ≡ b
same_defs a b e = cc

no_table : (o : Option Table) → None ≡ option_map (λ (t : Table). map.values t.indexes) o → definitions_in o ≡ []
no_table None e = refl
no_table (Some t) e = cc

no_definitions : (ds : List Tree) (o : Option Table) → Some ds ≡ option_map (λ (t : Table). map.values t.indexes) o → ds ≡ [] → definitions_in o ≡ []
no_definitions ds None e f = refl
no_definitions ds (Some t) e f = empty (map.entries t.indexes) (sym (same_defs ds (map.values t.indexes) e) ∙ f)
  where
    empty : (es : List (Key × Tree)) → each (λ (x : Key × Tree). x.1) es ≡ [] → es ≡ []
    empty [] g = refl
    empty (x ∷ es) g = cc

-- indexes over the documents of a collection, of its definitions, are its built indexes
are_built : (r : Rows) (n : NsName) (defs : List Tree) (docs : List Fields) (o : Option Table) (hs : List Holding) → AreKeyed r → AreSound r → IndexesHold r → map.get r.tables n ≡ o → Some defs ≡ defs_of o → docs ≡ documents (rows_in o) → AreOver (keyed docs) hs (plans_of defs) → AreBuilt o (Some hs)
are_built r n defs docs None hs keyed_rows sound hold e f g over = cc
are_built r n defs docs (Some t) hs keyed_rows sound hold e f g over = (
  t,
  refl,
  record {
    over = subst (λ (ds : Docs). AreOver ds hs (plans_of (map.values t.indexes))) (ap keyed g ∙ sym (keyed_paired t.rows (keyed_rows n t e))) (subst (λ (ts : List Tree). AreOver (keyed docs) hs (plans_of ts)) (same_defs defs (map.values t.indexes) f) over);
    hold = hold n t e;
    rising = (sound n t e).0.0;
  },
)

pub returns-in_default : goal.returns-in_default
returns-in_default c = no_table (map.get c.args.state.now.tables c.args.ns.now) (ap option_copied (sym c.in_default.is) ∙ c.indexes.ensures.definitions)

pub returns-then-is_empty : goal.returns-then-is_empty
returns-then-is_empty c = no_definitions c.in-Some.defs.now (map.get c.args.state.now.tables c.args.ns.now) c.in-Some.ensures.definitions (c.is_empty.ensures.0 (first_of (cc, grind (arith, common_steps))))

pub returns-in-Some-indexes_over : goal.returns-in-Some-indexes_over
returns-in-Some-indexes_over c =
    are_built c.args.state.now c.args.ns.now c.as_slice.result.now (held c.as_slice-2.result.now) (map.get c.args.state.now.tables c.args.ns.now) c.in-Some-indexes_over.indexes c.requires.keyed c.is_sound.ensures c.requires.hold refl
    (ap Some c.as_slice.ensures ∙ c.in-Some.ensures.definitions) (ap held c.as_slice-2.ensures.value ∙ c.in_ok-docs.ensures) c.in-Some-indexes_over.ensures
