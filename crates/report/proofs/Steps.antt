-- One more record as text.
use Rattle.std.proofs.Common.{◌≡◌, ℕ, ◌+◌, ◌<◌, List, [], ◌∷◌, ◌++◌, length, get_or, take, sym, ap, ◌∙◌, append_assoc, append-nil, arith}
use Rattle.std.proofs.lemmas.List.{take_more, length-take-le}
use Rattle.report.specs.SiteLines.{node_line, node_lines}
use Rattle.site.specs.declared.node.Node.{Node}

-- The lines of some records and then of others.
lines_both : (i : ℕ) (ns ms : List Node) → node_lines i (ns ++ ms) ≡ node_lines i ns ++ node_lines (i + length ns) ms
lines_both i [] ms = let e : i ≡ i + 0 = omega arith in ap (λ k. node_lines k ms) e
lines_both i (n ∷ ns) ms =
    let e : i + 1 + length ns ≡ i + length (n ∷ ns) = omega arith in
    ap (λ t. node_line i n ++ t) (lines_both (i + 1) ns ms)
    ∙ ap (λ k. node_line i n ++ (node_lines (i + 1) ns ++ node_lines k ms)) e
    ∙ sym (append_assoc (node_line i n) (node_lines (i + 1) ns) (node_lines (i + length (n ∷ ns)) ms))

-- The lines of the first records, and one more.
pub lines_more : (ns : List Node) (i : ℕ) (d : Node) → i < length ns → node_lines 0 (take i ns) ++ node_line i (get_or ns i d) ≡ node_lines 0 (take (i + 1) ns)
lines_more ns i d h =
    let w : i ≡ 0 + length (take i ns) = omega (arith, length-take-le i ns (omega arith)) in
    ap (λ t. node_lines 0 (take i ns) ++ t) (sym (append-nil (node_line i (get_or ns i d))))
    ∙ ap (λ k. node_lines 0 (take i ns) ++ node_lines k (get_or ns i d ∷ [])) w
    ∙ sym (lines_both 0 (take i ns) (get_or ns i d ∷ []))
    ∙ ap (node_lines 0) (sym (take_more ns i d h))
