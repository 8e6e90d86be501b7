-- What a value is that was read where it lies, by its kind.
use Rattle.std.proofs.Common.{◌≡◌, refl, sym, ap, ◌∙◌}
use Rattle.std.specs.Prelude.{ℤ, Option, Some, None, MatchOption}
use Rattle.bson_value.specs.declared.value.Value.{Value, Value-F, out-Value}
use Rattle.bson_value.specs.declared.value.Value.TheVariants.{Int, Null, outs-Double, outs-Str, outs-Object, outs-Array, outs-Binary, outs-Undefined, outs-Oid, outs-Bool, outs-Date, outs-Null, outs-Regex, outs-DbPointer, outs-Code, outs-Symbol, outs-ScopedCode, outs-Int, outs-Stamp, outs-Long, outs-Decimal, outs-MinKey, outs-MaxKey}
use Rattle.bson_view.specs.declared.value_ref.ValueRef.{ValueRef}
use Rattle.bson_view.specs.declared.value_ref.ValueRef.TheVariants as refs
use Rattle.bson_view.specs.Held.{held_document}
use Rattle.bson_view.specs.HeldWalk.{items_left}
use Rattle.bson_view.specs.References.{value_meant, str_in, stamp_in as meant_stamp}
use Rattle.entry_model.specs.Reading.{text_in, stamp_in}
use Rattle.entry_reader.specs.Singles.{int_in}

-- the value, opened
abbrev opened : ValueRef → Value-F Value
opened (refs.Double d) = Value-F.Double d
opened (refs.Str t) = Value-F.Str t.now
opened (refs.Object h) = Value-F.Object (held_document h)
opened (refs.Array vs) = Value-F.Array (items_left vs)
opened (refs.Binary s b) = Value-F.Binary s b.now
opened refs.Undefined = Value-F.Undefined
opened (refs.Oid d) = Value-F.Oid d
opened (refs.Bool b) = Value-F.Bool b
opened (refs.Date z) = Value-F.Date z
opened refs.Null = Value-F.Null
opened (refs.Regex p o) = Value-F.Regex p.now o.now
opened (refs.DbPointer t d) = Value-F.DbPointer t.now d
opened (refs.Code t) = Value-F.Code t.now
opened (refs.Symbol t) = Value-F.Symbol t.now
opened (refs.ScopedCode t h) = Value-F.ScopedCode t.now (held_document h)
opened (refs.Int z) = Value-F.Int z
opened (refs.Stamp s) = Value-F.Stamp s
opened (refs.Long z) = Value-F.Long z
opened (refs.Decimal d) = Value-F.Decimal d
opened refs.MinKey = Value-F.MinKey
opened refs.MaxKey = Value-F.MaxKey

opens : (r : ValueRef) → out-Value (value_meant r) ≡ opened r
opens (refs.Double d) = outs-Double d
opens (refs.Str t) = outs-Str t.now
opens (refs.Object h) = outs-Object (held_document h)
opens (refs.Array vs) = outs-Array (items_left vs)
opens (refs.Binary s b) = outs-Binary s b.now
opens refs.Undefined = outs-Undefined
opens (refs.Oid d) = outs-Oid d
opens (refs.Bool b) = outs-Bool b
opens (refs.Date z) = outs-Date z
opens refs.Null = outs-Null
opens (refs.Regex p o) = outs-Regex p.now o.now
opens (refs.DbPointer t d) = outs-DbPointer t.now d
opens (refs.Code t) = outs-Code t.now
opens (refs.Symbol t) = outs-Symbol t.now
opens (refs.ScopedCode t h) = outs-ScopedCode t.now (held_document h)
opens (refs.Int z) = outs-Int z
opens (refs.Stamp s) = outs-Stamp s
opens (refs.Long z) = outs-Long z
opens (refs.Decimal d) = outs-Decimal d
opens refs.MinKey = outs-MinKey
opens refs.MaxKey = outs-MaxKey

text_opened : (r : ValueRef) → str_in r ≡ text_in (opened r)
text_opened (refs.Str t) = refl
text_opened _ = refl

stamp_opened : (r : ValueRef) → meant_stamp r ≡ stamp_in (opened r)
stamp_opened (refs.Stamp s) = refl
stamp_opened _ = refl

pub text_read : (r : ValueRef) (v : Value) → value_meant r ≡ v → str_in r ≡ text_in (out-Value v)
text_read r v e = text_opened r ∙ ap text_in (sym (opens r) ∙ ap out-Value e)

pub stamp_read : (r : ValueRef) (v : Value) → value_meant r ≡ v → meant_stamp r ≡ stamp_in (out-Value v)
stamp_read r v e = stamp_opened r ∙ ap stamp_in (sym (opens r) ∙ ap out-Value e)

-- an int32 by what its bytes were read as
pub int_taken : (o : Option ℤ) (v w : Value) → v ≡ w → MatchOption o (v ≡ Null) (λ n. v ≡ Int n) → o ≡ int_in (out-Value w)
int_taken None v w e h = ap int_in (sym outs-Null ∙ ap out-Value (sym h ∙ e))
int_taken (Some n) v w e h = ap int_in (sym (outs-Int n) ∙ ap out-Value (sym h ∙ e))
