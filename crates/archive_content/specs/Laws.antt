-- What is written of an archive is its content.
use Rattle.std.specs.Prelude.{◌≤◌, List, [], ◌++◌, map, length}
use Rattle.archive_format.specs.Shapes.{Header, Metadata}
use Rattle.archive_format.specs.Archive.{Content, limit}
use Rattle.archive_content.specs.Pieces.{Piece, AllMayFollow, AreEnded, IsHeader, AreMetas, meta_taking, all_takings, archive_text}

-- a prelude, and blocks and ends in any order of which each may follow those before it, are an archive that holds their metadata texts, documents and ends, in this order
abbrev pub WrittenIsContent : Type 0
WrittenIsContent = (h : Header) (ms : List Metadata) (ps : List Piece) → IsHeader h → AreMetas [] ms → AllMayFollow [] ps → AreEnded ps → length (archive_text h ms ps) ≤ limit → Content (archive_text h ms ps) (map meta_taking ms ++ all_takings ps)
