use Rattle.std.proofs.Common.{◌≡◌, ◌++◌, List, ℕ, refl, subst, ◌∙◌}
use Rattle.std.specs.Prelude.{flat_map}
use Rattle.std.specs.Io.KnownBytes.{Appends}
use Rattle.tool_io.specs.Causes.{AppendsFront}
use Rattle.tool_io.proofs.Writes.{on_ok, on_err, whatever_err}
use Rattle.archive_format.specs.Archive.{magic_bytes}
use Rattle.archive_format.specs.Written.{header_text}
use Rattle.archive_prelude.specs.declared.prelude.Meta.{Meta}
use Rattle.archive_prelude.specs.Parts.{header_of_prelude}
use Rattle.archive_prelude.proofs.Pieces.{meta_bytes, header_front, metas_front, stop_front, whole_prelude}
use Rattle.archive_prelude.proofs.writing.write.Goals as goal

pub returns-in_err-write-clause-err : goal.returns-in_err-write-clause-err
returns-in_err-write-clause-err g c =
    let p = c.args.prelude.now in
    let a = (g.K.Sink.end c.args.sink.now).bytes in
    let b = (g.K.Sink.end c.write.new.self).bytes in
    let is : c.extend_from_slice.new.self ≡ magic_bytes ++ header_text (header_of_prelude p) = c.in_ok-extend_from_slice.ensures.ok ∙ rw (c.in_ok-front.ensures, c.as_slice.ensures, c.in_ok-header.ensures) refl in
    whatever_err c.from_residual-in_err-write.result (header_front a b b b (header_of_prelude p) p.metas c.extend_from_slice.new.self is (subst (λ (z : List ℕ). AppendsFront a b z) c.as_slice-2.ensures c.in_err-write.ensures.err))

pub returns-in_err-write_metas-clause-err : goal.returns-in_err-write_metas-clause-err
returns-in_err-write_metas-clause-err g c =
    let p = c.args.prelude.now in
    let a = (g.K.Sink.end c.args.sink.now).bytes in
    let b = (g.K.Sink.end c.write.new.self).bytes in
    let e = (g.K.Sink.end c.write_metas.new.sink).bytes in
    let is : c.extend_from_slice.new.self ≡ magic_bytes ++ header_text (header_of_prelude p) = c.in_ok-extend_from_slice.ensures.ok ∙ rw (c.in_ok-front.ensures, c.as_slice.ensures, c.in_ok-header.ensures) refl in
    whatever_err c.from_residual-in_err-write_metas.result
    (metas_front a b e e (header_of_prelude p) p.metas c.extend_from_slice.new.self is (subst (λ (z : List ℕ). Appends a b z) c.as_slice-2.ensures c.in_ok-write.ensures.ok)
    (subst (λ (z : List Meta). AppendsFront b e (flat_map meta_bytes z)) c.as_slice-3.ensures c.in_err-write_metas.ensures.err))

pub returns-clause-ok : goal.returns-clause-ok
returns-clause-ok g c =
    let p = c.args.prelude.now in
    let a = (g.K.Sink.end c.args.sink.now).bytes in
    let b = (g.K.Sink.end c.write.new.self).bytes in
    let e = (g.K.Sink.end c.write_metas.new.sink).bytes in
    let f = (g.K.Sink.end c.write-2.new.self).bytes in
    let is : c.extend_from_slice.new.self ≡ magic_bytes ++ header_text (header_of_prelude p) = c.in_ok-extend_from_slice.ensures.ok ∙ rw (c.in_ok-front.ensures, c.as_slice.ensures, c.in_ok-header.ensures) refl in
    on_ok c.write-2.result
    (whole_prelude a b e f (header_of_prelude p) p.metas c.extend_from_slice.new.self is (subst (λ (z : List ℕ). Appends a b z) c.as_slice-2.ensures c.in_ok-write.ensures.ok)
    (subst (λ (z : List Meta). Appends b e (flat_map meta_bytes z)) c.as_slice-3.ensures c.in_ok-write_metas.ensures.ok))
    c.write-2.ensures.ok

pub returns-clause-err : goal.returns-clause-err
returns-clause-err g c =
    let p = c.args.prelude.now in
    let a = (g.K.Sink.end c.args.sink.now).bytes in
    let b = (g.K.Sink.end c.write.new.self).bytes in
    let e = (g.K.Sink.end c.write_metas.new.sink).bytes in
    let f = (g.K.Sink.end c.write-2.new.self).bytes in
    let is : c.extend_from_slice.new.self ≡ magic_bytes ++ header_text (header_of_prelude p) = c.in_ok-extend_from_slice.ensures.ok ∙ rw (c.in_ok-front.ensures, c.as_slice.ensures, c.in_ok-header.ensures) refl in
    on_err c.write-2.result
    (stop_front a b e f (header_of_prelude p) p.metas c.extend_from_slice.new.self is (subst (λ (z : List ℕ). Appends a b z) c.as_slice-2.ensures c.in_ok-write.ensures.ok)
    (subst (λ (z : List Meta). Appends b e (flat_map meta_bytes z)) c.as_slice-3.ensures c.in_ok-write_metas.ensures.ok))
    c.write-2.ensures.err
