use Rattle.std.proofs.Common.{◌≡◌, Some, if◌then◌else◌, string_bytes, refl}
use Rattle.std.proofs.lemmas.Result.{IfOk-at_ok}
use Rattle.std.proofs.lemmas.Map.Text.{btree_map_updates_text}
use Rattle.doc_path.specs.declared.parts.Part.{Part}
use Rattle.doc_path.specs.declared.parts.Part.TheVariants.{Name, Index as Number}
use Rattle.entry_model.specs.Edits.{same_part}
use Rattle.entry_writer.specs.Groups.{place_in}
use Rattle.entry_writer.proofs.index.Index.insert_name.Goals as goal

pub returns : goal.returns
returns c = λ q. by q
  where
    by : (q : Part) → place_in record { names = c.insert.new.self; indexes = c.args.self.now.indexes } q ≡ (if same_part (Name c.args.name.now) q then Some c.args.place else place_in c.args.self.now q)
    by (Name k) =
        let is = IfOk-at_ok (λ s. string_bytes s ≡ c.args.name.now) c.in_ok-key.was c.from_str.ensures.ok in
        rw is at (btree_map_updates_text (string_bytes c.in_ok-key.key) c.args.self.now.names c.insert.new.self _ c.in_ok-insert.ensures.updates k)
    by (Number n) = refl
