use Rattle.std.proofs.Common.{◌≡◌, ℕ, ◌+◌, ◌%◌, ◌^◌, ◌∷◌, ◌++◌, length, ap, ◌∙◌, arith}
use Rattle.std.proofs.lemmas.List.{length-append}
use Rattle.bson_value.specs.Spelling.{count_bytes, element, spelling}
use Rattle.bson_value.proofs.Sizes.{element_length}
use Rattle.spliced_documents.proofs.Joining.{two_levels, two_sizes}
use Rattle.spliced_documents.proofs.pieces.counted_below.Goals as goal

pub returns-clause-bytes : goal.returns-clause-bytes
returns-clause-bytes c =
    let f = c.args.field.now in
    let k = c.args.name.now in
    let v = c.args.value.now in
    let of = c.args.outer.0.now in
    let rest = c.args.outer.1.now in
    let first = c.args.inner.0.now in
    let last = c.args.inner.1.now in
    let own = element (k, spelling v) in
    let below : ℕ = (length first + length c.as_str.result.now + length last + 6 + c.spelling_len.result) % 2 ^ 64 in
    let len : ℕ = length of + length f + length rest + below + 6 in
    let size = two_sizes c.in_ok-out.out.items c.put_counted.new.out.items c.put_name.new.out.items c.put_counted-2.new.out.items c.put_element.new.out.items c.extend_from_slice.new.self.items c.extend_from_slice-2.new.self.items c.args.tag
    (count_bytes len) of f (count_bytes below) first own last rest c.in_ok-out.ensures.items c.in_ok-put_counted.ensures c.in_ok-put_name.ensures c.in_ok-put_counted-2.ensures c.in_ok-put_element.ensures c.in_ok-extend_from_slice.ensures.items c.in_ok-extend_from_slice-2.ensures.items in
    let whole = two_levels c.in_ok-out.out.items c.put_counted.new.out.items c.put_name.new.out.items c.put_counted-2.new.out.items c.put_element.new.out.items c.extend_from_slice.new.self.items c.extend_from_slice-2.new.self.items c.args.tag
    (count_bytes len) of f (count_bytes below) first own last rest c.in_ok-out.ensures.items c.in_ok-put_counted.ensures c.in_ok-put_name.ensures c.in_ok-put_counted-2.ensures c.in_ok-put_element.ensures c.in_ok-extend_from_slice.ensures.items c.in_ok-extend_from_slice-2.ensures.items in
    let is_below : below ≡ length first + length own + length last + 4 =
    omega (arith, size, c.extend_from_slice-2.new.self.ok.0, c.extend_from_slice-2.new.self.ok.1, c.extend_from_slice-2.new.self.small, c.spelling_len.ensures, element_length k v, ap length c.as_str.ensures.text) in
    let value = count_bytes (length first + length own + length last + 4) ++ first ++ own ++ last in
    let is_len : len ≡ length of + length (element (f, (c.args.tag, value))) + length rest + 4 =
    omega (
      arith,
      is_below,
      length-append f (0 ∷ value),
      length-append (count_bytes (length first + length own + length last + 4) ++ first ++ own) last,
      length-append (count_bytes (length first + length own + length last + 4) ++ first) own,
      length-append (count_bytes (length first + length own + length last + 4)) first,
    ) in
    c.from_vec.ensures ∙ whole ∙ ap (λ (n : ℕ). count_bytes len ++ of ++ element (f, (c.args.tag, count_bytes n ++ first ++ own ++ last)) ++ rest) is_below
    ∙ ap (λ (n : ℕ). count_bytes n ++ of ++ element (f, (c.args.tag, value)) ++ rest) is_len
