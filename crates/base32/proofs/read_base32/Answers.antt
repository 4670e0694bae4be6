use Rattle.std.proofs.Common.{arith, rules, ◌≡◌, ◌+◌, ◌*◌, ◌/◌, ap, sym, ◌∙◌, ◌++◌, [], length, length-take, take, drop, get_or, true}
use Rattle.std.proofs.lemmas.List.Elements.{All-same}
use Rattle.base32.specs.Base32.{in_alphabet, decoded}
use Rattle.base32.proofs.Groups.{group_at, decoded_more, decoded_last, bytes_fit, part_in, filled_in}
use Rattle.base32.proofs.read_base32.Goals as goal

pub read_group-requires : goal.read_group-requires
read_group-requires c =
    let l = c.args.chars.now in
    let i = c.loop-group.group-index in
    All-same (λ x. in_alphabet x ≡ true) _ (take 8 (drop (8 * i) l)) (ap (λ z. get_or z i []) c.as_chunks.ensures.front ∙ group_at 8 (length l / 8) i l [] (omega (arith, c.as_chunks.ensures.front_len))) (part_in l 8 (8 * i) c.requires.alphabet)

pub append-requires : goal.append-requires
append-requires c =
    let five : length c.read_group.result ≡ 5 = search rules in
    bytes_fit c.args.chars.now c.loop-group.bytes.items (8 * c.loop-group.group-index) _ c.loop-group.invariant c.requires.short (omega (arith, five, c.as_chunks.ensures.front_len))

pub append-requires-2 : goal.append-requires-2
append-requires-2 c =
    let five : length c.read_group-2.result ≡ 5 = search rules in
    bytes_fit c.args.chars.now c.loop-group.bytes.items (8 * c.loop-group.group-index) _ c.loop-group.invariant c.requires.short
    (omega (arith, five, c.as_chunks.ensures.front_len, c.as_chunks.ensures.back_len, length-take (5 * length c.as_chunks.result.1.now / 8) c.read_group-2.result))

pub loop-group-preserved : goal.loop-group-preserved
loop-group-preserved c =
    let l = c.args.chars.now in
    let i = c.loop-group.group-index in
    let whole = decoded_more l c.loop-group.bytes.items c.read_group.result _ i c.loop-group.invariant (omega (arith, c.as_chunks.ensures.front_len))
    (ap (λ z. get_or z i []) c.as_chunks.ensures.front ∙ group_at 8 (length l / 8) i l [] (omega (arith, c.as_chunks.ensures.front_len))) c.read_group.ensures in
    ap (λ z. z ++ decoded (drop (8 * (i + 1)) l)) c.append.ensures ∙ whole

pub read_group-requires-2 : goal.read_group-requires-2
read_group-requires-2 c =
    filled_in c.args.chars.now _ _ (length c.args.chars.now / 8 * 8) c.requires.alphabet c.as_chunks.ensures.back c.copy_from_slice.ensures.after

pub returns : goal.returns
returns c =
    let l = c.args.chars.now in
    let done = c.loop-group.bytes.items in
    let i : 8 * c.loop-group.group-index ≡ length l / 8 * 8 = omega (arith, c.as_chunks.ensures.front_len) in
    c.append-2.ensures
    ∙ decoded_last l done c.read_group-2.result _ _ (length l / 8 * 8) (ap (λ p. done ++ decoded (drop p l)) (sym i) ∙ c.loop-group.invariant) c.as_chunks.ensures.back (omega (arith, c.as_chunks.ensures.back_len)) c.copy_from_slice.ensures.after c.read_group-2.ensures
