use Rattle.std.proofs.Common.{rules, ◌++◌, sym, ap, ◌∙◌, arith}
use mathlib.Core.Logic.{∥∥₁_elim}
use native.Mathlib.Bridge.{le_prop}
use Rattle.water.specs.Tree.{Tree}
use Rattle.site.specs.Records.{records}
use Rattle.site.proofs.Sides.{merge_past}
use Rattle.site.proofs.Pours.{alone, first_rooted, nothing, pours_merge, second_rooted, top_dry}
use Rattle.site.proofs.table.Table.+pour.Goals as goal

pub returns-then-litres-eq0-clause-water : goal.returns-then-litres-eq0-clause-water
returns-then-litres-eq0-clause-water t c =
    let none = λ (tree : Tree). nothing c.args.leaf c.args.litres tree c.if-litres-eq0.true in
    record {
      water = λ before tree after s. s.stands ∙ ap (λ (x : Tree). before ++ (records x ++ after)) (sym (none tree).0);
      rest = λ before tree after s. sym (none tree).1;
    }

pub fill_record-requires : goal.fill_record-requires
fill_record-requires t c =
    let one = alone c.args.self.now.nodes c.args.root c.args.leaf c.args.litres c.in_default.not-Merge in
    record { inside = c.requires.place; litres_fit = ∥∥₁_elim c.requires.rooted le_prop (λ h. omega (arith, (one h.0 h.1 h.2 h.3).drains, h.4)) }

pub returns-in_default : goal.returns-in_default
returns-in_default t c =
    let one = alone c.args.self.now.nodes c.args.root c.args.leaf c.args.litres c.in_default.not-Merge in
    record {
      water = record {
        water = λ before tree after s. c.fill_record.ensures.water ∙ (one before tree after s).water;
        rest = λ before tree after s. c.fill_record.ensures.rest ∙ (one before tree after s).rest;
      };
      count = c.fill_record.ensures.count;
    }

pub sides_from-sides-requires : goal.sides_from-sides-requires
sides_from-sides-requires t c =
    let past = merge_past c.args.self.now.nodes c.args.root c.in-Merge.is c.args.litres c.requires.rooted in
    record { has_left = past.0; has_right = omega (arith, past.0, past.1) }

pub pour-spilled-requires : goal.pour-spilled-requires
pour-spilled-requires t c =
    let one =
    first_rooted c.args.self.now.nodes c.args.root c.in-Merge.is c.args.litres c.sides_from-sides.ensures c.requires.rooted in
    (omega (arith, c.decreases, one.0), (omega (arith, c.requires.place, one.0), one.1))

pub pour-rest-requires : goal.pour-rest-requires
pour-rest-requires t c =
    let two =
    second_rooted c.args.self.now.nodes c.args.root c.in-Merge.is c.args.litres c.sides_from-sides.ensures
    c.pour-spilled.ensures.water c.requires.rooted in
    (omega (arith, c.decreases, two.0), (omega (arith, c.requires.place, two.0), two.1))

pub fill_record-requires-2-clause-litres_fit : goal.fill_record-requires-2-clause-litres_fit
fill_record-requires-2-clause-litres_fit t c =
    let dry = top_dry c.args.self.now.nodes c.args.root c.in-Merge.is c.args.litres c.sides_from-sides.ensures c.pour-spilled.ensures.water c.pour-rest.ensures.water c.requires.rooted in
    omega (arith, dry, c.pour-rest.type_inv)

pub returns-clause-water : goal.returns-clause-water
returns-clause-water t c = search (rules, pours_merge)
