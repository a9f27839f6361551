-- `write_view` meets its contract: the parts, two rows of digits, the rows of statements, the counts. Assumes nothing.
use Rattle.view.proofs.Together.{parts-fit, tens-fit, units-fit, rows_fit, last_room, put-together}
use Rattle.view.proofs.write_view.Goals as goal

pub write_parts-k1-requires : goal.write_parts-k1-requires
write_parts-k1-requires c = parts-fit c.args.out.now c.requires

pub write_head-k2-requires : goal.write_head-k2-requires
write_head-k2-requires c = tens-fit c.args.out.now c.requires c.write_parts-k1.ensures

pub write_head-k3-requires : goal.write_head-k3-requires
write_head-k3-requires c = units-fit c.args.out.now c.requires c.write_parts-k1.ensures c.write_head-k2.ensures

pub write_rows-k4-requires : goal.write_rows-k4-requires
write_rows-k4-requires c = rows_fit c.args.out.now c.requires c.write_parts-k1.ensures c.write_head-k2.ensures c.write_head-k3.ensures

pub write_last-requires : goal.write_last-requires
write_last-requires c = last_room c.args.out.now c.requires c.write_parts-k1.ensures c.write_head-k2.ensures c.write_head-k3.ensures c.write_rows-k4.ensures

pub returns : goal.returns
returns c = put-together c.args.out.now c.requires c.write_parts-k1.ensures c.write_head-k2.ensures c.write_head-k3.ensures c.write_rows-k4.ensures c.write_last.ensures
