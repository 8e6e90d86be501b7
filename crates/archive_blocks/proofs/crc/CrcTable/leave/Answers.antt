use Rattle.archive_blocks.proofs.Linear.{eight_bytes}
use Rattle.archive_blocks.proofs.crc.CrcTable.leave.Goals as goal

pub returns : goal.returns
returns c =
    eight_bytes c.args.behind c.args.number _ _ _ _ _ _ _ _ c.ranges.number.fits c.row.ensures c.row-2.ensures c.row-3.ensures c.row-4.ensures c.row-5.ensures c.row-6.ensures c.row-7.ensures c.row-8.ensures
