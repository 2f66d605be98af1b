use Rattle.std.proofs.Common.{◌≡◌, ◌≤◌, ◌+◌, ◌∙◌, ℕ, List, ◌++◌, length, take, drop, ap, sym, arith, take-append-drop}
use Rattle.std.proofs.lemmas.List.{drop-drop, take-append-le, take_all, length-take-le}
use Rattle.drm_connections.proofs.read_ahead.ReadAhead.take.Goals as goal

pub returns-else-self-len-clause-bytes : goal.returns-else-self-len-clause-bytes
returns-else-self-len-clause-bytes c =
    let n : ℕ = c.min-count.result in
    let all : List ℕ = c.args.self.now in
    let copied : List ℕ = c.copy_from_slice.new.self in
    let is : copied ≡ take n all = c.copy_from_slice.ensures.after ∙ ap (take n) c.as_slice-left.ensures in
    let same : length c.as_slice-left.result.now ≡ length all = ap length c.as_slice-left.ensures in
    let within : n ≤ length all = omega (arith, same, c.min-count.ensures) in
    let size : length copied ≡ n = ap length is ∙ length-take-le n all within in
    let front : take n (copied ++ drop n c.args.buf.now) ≡ take n all =
    take-append-le n copied (drop n c.args.buf.now) (omega (arith, size)) ∙ take_all n copied (omega (arith, size)) ∙ is in
    let rest : drop n all ≡ drop (c.self.inside.taken + n) c.self.inside.bytes.items =
    ap (drop n) (sym c.self.view_is) ∙ drop-drop n c.self.inside.taken c.self.inside.bytes.items in
    sym (take-append-drop n all) ∙ ap (λ l. l ++ drop n all) (sym front) ∙ ap (λ l. take n (copied ++ drop n c.args.buf.now) ++ l) rest
