-- The scans find no word, or one that stands between them.
use mathlib.Core.Path.{sym, ◌∙◌}
use Rattle.list_line.proofs.Scans.{no_word, word_there, word_within}
use Rattle.list_line.proofs.words.Words.word.Goals as goal

pub returns-then-start-line : goal.returns-then-start-line
returns-then-start-line c =
    let s = c.self.inside in
    sym c.self.view_is
    ∙ no_word s.line.now s.at c.scan-start.result c.scan-start.ensures c.if-start-line.true

pub slice_bounds-word-count : goal.slice_bounds-word-count
slice_bounds-word-count c =
    let s = c.self.inside in
    (word_within s.line.now s.at c.scan-start.result c.scan-start.ensures c.scan-end.result
    c.if-start-line.false c.scan-end.ensures).0

pub slice_bounds-word-end : goal.slice_bounds-word-end
slice_bounds-word-end c =
    let s = c.self.inside in
    (word_within s.line.now s.at c.scan-start.result c.scan-start.ensures c.scan-end.result
    c.if-start-line.false c.scan-end.ensures).1

pub slice_bounds-word-start : goal.slice_bounds-word-start
slice_bounds-word-start c =
    let s = c.self.inside in
    (word_within s.line.now s.at c.scan-start.result c.scan-start.ensures c.scan-end.result
    c.if-start-line.false c.scan-end.ensures).0

pub returns : goal.returns
returns c =
    let s = c.self.inside in
    sym c.self.view_is
    ∙ word_there s.line.now s.at c.scan-start.result c.scan-start.ensures c.scan-end.result
    c.if-start-line.false c.scan-end.ensures
