use Rattle.std.proofs.Common.{rules, ◌∙◌, arith}
use Rattle.site.proofs.Seen.{basin_seen, joined_fits, left_rooted, merge_seen, outlet_seen, right_rooted, seen_at, unused_seen}
use Rattle.site.proofs.Sides.{cut_as, merge_past}
use Rattle.site.proofs.table.Table.+survey.Goals as goal

pub returns-in-Unused : goal.returns-in-Unused
returns-in-Unused t c = search (rules, seen_at, unused_seen)

pub returns-in-Basin : goal.returns-in-Basin
returns-in-Basin t c = search (rules, seen_at, basin_seen)

pub returns-in-Outlet : goal.returns-in-Outlet
returns-in-Outlet t c = search (rules, seen_at, outlet_seen)

pub overflow_sub-cut : goal.overflow_sub-cut
overflow_sub-cut t c =
    let is = cut_as c.args.self.now.nodes c.args.root c.in-Merge.is c.from-cut.ensures in
    (merge_past c.args.self.now.nodes c.args.root is 0 c.requires.rooted).0

pub survey-left-requires : goal.survey-left-requires
survey-left-requires t c =
    let is = cut_as c.args.self.now.nodes c.args.root c.in-Merge.is c.from-cut.ensures in
    let l = left_rooted c.args.self.now.nodes c.args.root is c.requires.rooted in
    (omega (arith, c.decreases, l.0), (omega (arith, c.requires.place, l.0), l.1))

pub overflow_sub-root : goal.overflow_sub-root
overflow_sub-root t c =
    let is = cut_as c.args.self.now.nodes c.args.root c.in-Merge.is c.from-cut.ensures in
    let past = merge_past c.args.self.now.nodes c.args.root is 0 c.requires.rooted in
    omega (arith, past.0, past.1)

pub survey-right-requires : goal.survey-right-requires
survey-right-requires t c =
    let is = cut_as c.args.self.now.nodes c.args.root c.in-Merge.is c.from-cut.ensures in
    let r = right_rooted c.args.self.now.nodes c.args.root is c.requires.rooted in
    (omega (arith, c.decreases, r.0), (omega (arith, c.requires.place, r.0), r.1))

pub joined-requires : goal.joined-requires
joined-requires t c =
    let is = cut_as c.args.self.now.nodes c.args.root c.in-Merge.is c.from-cut.ensures in
    joined_fits c.args.self.now.nodes c.args.root is c.args.leaf c.survey-left.ensures c.survey-right.ensures c.requires.rooted

pub returns-in-Merge : goal.returns-in-Merge
returns-in-Merge t c =
    let is = cut_as c.args.self.now.nodes c.args.root c.in-Merge.is c.from-cut.ensures in λ before tree after s.
    c.joined.ensures
    ∙ merge_seen c.args.self.now.nodes c.args.root is c.args.leaf c.survey-left.ensures c.survey-right.ensures before tree after s
