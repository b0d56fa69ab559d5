use Rattle.ms_cell.specs.Passes.{Passes}
use Rattle.ms_cell.proofs.Gathering.{joined_all, joined_alike, joined_idle, joined_first, joined_second}
use Rattle.ms_cell.proofs.making.join_cells.Goals as goal

pub returns-clause-idle : goal.returns-clause-idle
returns-clause-idle g c =
    let p : Passes = record { gate = c.first.inside.gate; metaslabs = c.first.inside.metaslabs.items } in
    let q : Passes = record { gate = c.second.inside.gate; metaslabs = c.second.inside.metaslabs.items } in
    let r : Passes = record { gate = c.join_pass.new.first; metaslabs = c.join_passes.new.first.items } in
    let joined = joined_all c.args.cells.now p c.args.first.now q c.args.second r c.first.view_is c.second.view_is c.requires.first c.requires.second c.join_pass.ensures c.join_passes.ensures.size c.join_passes.ensures.joined in
    joined_idle c.args.cells.now c.args.first.now c.args.second r c.requires.first joined

pub returns-clause-first : goal.returns-clause-first
returns-clause-first g c =
    let p : Passes = record { gate = c.first.inside.gate; metaslabs = c.first.inside.metaslabs.items } in
    let q : Passes = record { gate = c.second.inside.gate; metaslabs = c.second.inside.metaslabs.items } in
    let r : Passes = record { gate = c.join_pass.new.first; metaslabs = c.join_passes.new.first.items } in
    let joined = joined_all c.args.cells.now p c.args.first.now q c.args.second r c.first.view_is c.second.view_is c.requires.first c.requires.second c.join_pass.ensures c.join_passes.ensures.size c.join_passes.ensures.joined in
    joined_first c.args.first.now c.args.second r joined

pub returns-clause-second : goal.returns-clause-second
returns-clause-second g c =
    let p : Passes = record { gate = c.first.inside.gate; metaslabs = c.first.inside.metaslabs.items } in
    let q : Passes = record { gate = c.second.inside.gate; metaslabs = c.second.inside.metaslabs.items } in
    let r : Passes = record { gate = c.join_pass.new.first; metaslabs = c.join_passes.new.first.items } in
    let joined = joined_all c.args.cells.now p c.args.first.now q c.args.second r c.first.view_is c.second.view_is c.requires.first c.requires.second c.join_pass.ensures c.join_passes.ensures.size c.join_passes.ensures.joined in
    joined_second c.args.first.now c.args.second r joined

pub returns-clause-alike : goal.returns-clause-alike
returns-clause-alike g c =
    let p : Passes = record { gate = c.first.inside.gate; metaslabs = c.first.inside.metaslabs.items } in
    let q : Passes = record { gate = c.second.inside.gate; metaslabs = c.second.inside.metaslabs.items } in
    let r : Passes = record { gate = c.join_pass.new.first; metaslabs = c.join_passes.new.first.items } in
    let joined = joined_all c.args.cells.now p c.args.first.now q c.args.second r c.first.view_is c.second.view_is c.requires.first c.requires.second c.join_pass.ensures c.join_passes.ensures.size c.join_passes.ensures.joined in
    joined_alike c.args.first.now c.args.second r joined
