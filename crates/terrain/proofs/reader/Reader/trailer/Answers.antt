use Rattle.std.proofs.Common.{length, ℕ, List, Bor, sym, ap, ◌∙◌}
use Rattle.std.proofs.lemmas.Option.{cond_some}
use Rattle.std.specs.Option.{option_map}
use Rattle.questions.specs.Ask.{first_no, verdict}
use Rattle.terrain.specs.Trailer.{trailer_of, trailer_questions}
use Rattle.terrain.proofs.reader.Reader.trailer.Goals as goal

pub returns-clause-answer : goal.returns-clause-answer
returns-clause-answer c =
    let n = length c.args.self.now.file.now in
    let t = cond_some _ _ _ (sym c.last.ensures.bytes ∙ ap (option_map (λ (t : Bor (List ℕ)). t.now)) c.in_ok-tail.ensures.ok_part) in
    c.read.ensures ∙ ap (λ (s : List ℕ). verdict (first_no (trailer_questions n s)) (trailer_of n s)) (sym t.1)
