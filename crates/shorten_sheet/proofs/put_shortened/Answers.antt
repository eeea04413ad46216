-- The file is copied, its copy is shortened, and the records that are left are put behind a head.
use mathlib.Core.Path.{ap, ◌∙◌}
use Rattle.rules.specs.EventFile.{Bytes}
use Rattle.rules.specs.Shorten.{refused_in}
use Rattle.text.proofs.Puts.{reading}
use Rattle.shorten_sheet.proofs.Sheet.{copy_inside, copy_stands, copy_events, left_of_it}
use Rattle.shorten_sheet.proofs.put_shortened.Goals as goal

pub slice_bounds-work-end : goal.slice_bounds-work-end
slice_bounds-work-end c =
    let narrow : Bytes c.args.file.now = λ i. (c.type_inv.file i).fits in
    copy_inside c.args.file.now narrow c.requires.0 c.file_buffer-work.ensures c.put_bytes-end.ensures

pub shorten-left-requires : goal.shorten-left-requires
shorten-left-requires c =
    let narrow : Bytes c.args.file.now = λ i. (c.type_inv.file i).fits in (
      copy_stands c.args.file.now narrow c.requires.0 c.file_buffer-work.ensures c.put_bytes-end.ensures,
      ap (refused_in c.args.number) (copy_events c.args.file.now narrow c.requires.0 c.file_buffer-work.ensures c.put_bytes-end.ensures)
          ∙ c.requires.1,
    )

pub put_file-requires : goal.put_file-requires
put_file-requires c =
    let narrow : Bytes c.args.file.now = λ i. (c.type_inv.file i).fits in
    let left = left_of_it c.args.file.now narrow c.requires.0 c.file_buffer-work.ensures c.put_bytes-end.ensures
    c.args.number c.shorten-left.ensures in
    left.short

pub returns : goal.returns
returns c =
    let narrow : Bytes c.args.file.now = λ i. (c.type_inv.file i).fits in
    let left = left_of_it c.args.file.now narrow c.requires.0 c.file_buffer-work.ensures c.put_bytes-end.ensures
    c.args.number c.shorten-left.ensures in
    reading left.bytes c.put_file.ensures
