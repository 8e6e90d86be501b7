-- A prelude in the words of the format.
use Rattle.std.specs.Prelude.{All}
use Rattle.archive_format.specs.Shapes.{Header, Metadata}
use Rattle.archive_format.specs.Written.{HeaderFits, MetaFits}
use Rattle.archive_prelude.specs.declared.prelude.Meta.{Meta}
use Rattle.archive_prelude.specs.declared.prelude.Prelude.{Prelude}

abbrev pub metadata_of : Meta → Metadata
metadata_of m = record { ns = m.ns; text = m.text }

abbrev pub header_of_prelude : Prelude → Header
header_of_prelude p = record { concurrent = p.concurrent; server = p.server; tool = p.tool }

-- each document has at most 16,793,600 bytes
abbrev pub PreludeFits : Prelude → Type 0
PreludeFits p = HeaderFits (header_of_prelude p) × All (λ m. MetaFits (metadata_of m)) p.metas
