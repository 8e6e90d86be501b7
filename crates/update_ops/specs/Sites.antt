-- What was found of a path, with its values lent.
use Rattle.std.specs.Prelude.{List, [], ◌∷◌, ◌++◌}
use Rattle.doc_path.specs.declared.parts.Part.{Part}
use Rattle.update_model.specs.Located.{Located, There, Missing, Blocked, further, located}
use Rattle.update_model.specs.Conflicts.{Path}
use Rattle.bson_value.specs.declared.value.Value.{Value}
use Rattle.update_ops.specs.declared.locating.Site.{Site}
use Rattle.update_ops.specs.declared.locating.Site.TheVariants as sites

abbrev pub located_as : List Part → Site → Located
located_as ws (sites.There p v) = There ws p v.now
located_as ws (sites.Missing p n rest) = Missing ws p n rest.now
located_as ws sites.Blocked = Blocked

-- the same behind other parts
abbrev pub behind : List Part → Located → Located
behind ws (There us p c) = There (ws ++ us) p c
behind ws (Missing us p n ks) = Missing (ws ++ us) p n ks
behind ws Blocked = Blocked

-- where these names lead from a value under a part
abbrev pub gone_on : Part → Path → Value → Located
gone_on p ks c = further ks (located ks) p c
