-- `records::listed::put` meets its contract: the length field, the version and the numbers of shots and triples, then the triples behind them.
use Rattle.std.proofs.Common.{◌∙◌, ap, ℕ, ◌+◌, ◌*◌, List, ◌∷◌}
use Rattle.algebra.specs.Writing.{wrote}
use Rattle.triples.specs.Sets.{words_of}
use Rattle.records.specs.Formats.{triple_bytes, surface_bytes}
use Rattle.records.proofs.FormatLaws.{headed, head_set, head-put}
use Rattle.records.proofs.listed.put.Goals as goal

pub returns : goal.returns
unfolding wrote surface_bytes
returns c =
    let n = c.args.n in
    let t = c.args.t in
    let out = c.args.out.now in
    let b = triple_bytes n (words_of c.args.list) in
    c.put_triples.ensures ∙ ap (λ (u : List ℕ). wrote (head_set u n) 4 (t ∷ b)) c.put_two.ensures ∙ head-put out (3 + 3 * t) n (t ∷ b)
    ∙ ap (λ (k : ℕ). wrote out 0 (headed (3 + 3 * k) n (k ∷ b))) c.requires.1
