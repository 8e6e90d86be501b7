use Rattle.std.proofs.Common.{refl, ◌≡◌}
use Rattle.archive_format.specs.Written.{meta_text, meta_fields}
use Rattle.archive_prelude.specs.Parts.{metadata_of}
use Rattle.archive_prelude.proofs.Pieces.{spelled_as}
use Rattle.archive_prelude.proofs.writing.metadata.Goals as goal

pub returns : goal.returns
unfolding meta_text
returns c =
    let is : c.add_text-4.new.doc ≡ meta_fields (metadata_of c.args.meta.now) = rw (c.in_ok-add_text-4.ensures, c.in_ok-add.ensures, c.in_ok-add_text-3.ensures, c.in_ok-add_text-2.ensures, c.in_ok-add_text.ensures, c.new-doc.ensures, c.as_str.ensures, c.as_str-2.ensures, c.as_str-3.ensures) refl in
    spelled_as c.encode.result _ _ is c.encode.ensures.bytes
