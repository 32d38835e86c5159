use Rattle.std.proofs.Common.{◌≡◌, ◌<◌, length, vec_len, get_or, ap, sym, rules, arith, ◌∙◌}
use Rattle.qpu_decoded.specs.Units.{decoded_of}
use Rattle.qpu_flow.proofs.CodeLemmas.{length_numbers, length_decoded, decoded_at}
use Rattle.qpu_flow.proofs.flow.Flow.decoded.Goals as goal

pub index-requires : goal.index-requires
index-requires c =
    let long : vec_len c.self.inside.decoded ≡ length c.self.inside.decoded.items = search rules in
    let counted : length c.self.inside.decoded.items ≡ length c.args.self.now =
    ap length c.self.invariant.fields ∙ length_decoded c.self.inside.words.items ∙ sym (length_numbers c.self.inside.words.items) ∙ ap length c.self.view_is in
    let there = c.requires in
    omega (arith, there, long, counted)

pub returns : goal.returns
returns c =
    let there : c.args.at < length c.self.inside.words.items =
    let counted : length c.args.self.now ≡ length c.self.inside.words.items = ap length (sym c.self.view_is) ∙ length_numbers c.self.inside.words.items in
    let low = c.requires in
    omega (arith, low, counted) in
    c.index.ensures ∙ ap (λ xs. get_or xs c.args.at c.index.result.now) c.self.invariant.fields ∙ decoded_at c.self.inside.words.items c.args.at c.index.result.now there
    ∙ ap (λ xs. decoded_of (get_or xs c.args.at 0)) c.self.view_is
