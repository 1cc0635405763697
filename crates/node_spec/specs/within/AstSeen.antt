-- What the lines of the program declare. Only contracts within the crate cite these.
use Rattle.std.specs.Prelude.{map}
use Rattle.section_frame.specs.Declares.{Declared}
use Rattle.section_frame.specs.Passes.{judged_by}
use Rattle.section_frame.specs.declared.pass.Numbered.{Numbered}
use Rattle.node_spec.specs.AstShapes.{AstSaying, SaidItem, family, target, a_type, node, build}
use Rattle.node_spec.specs.AstTables.{Row}
use Rattle.node_spec.specs.declared.ast_line.ItemText.{ItemText}
use Rattle.node_spec.specs.declared.ast_line.Saying.{Saying}
use Rattle.node_spec.specs.declared.ast_line.Saying.TheVariants as says
use Rattle.node_spec.specs.declared.rows.TypeRow.{TypeRow}
use Rattle.expr_read.specs.Writing.{spoken_of}

-- the pure form of an item
abbrev pub item_seen : ItemText → SaidItem
item_seen item = record { name = item.name.now; of = item.of.now }

-- the pure form of what a line says
abbrev pub saying_seen : Saying → AstSaying
saying_seen (says.Family name) = family name.now
saying_seen (says.Target name) = target name.now
saying_seen (says.NodeType name base items) = a_type name.now base.now (map item_seen items.now)
saying_seen (says.Node nonterminal name) = node nonterminal.now name.now
saying_seen (says.Build label e) = build label.now (spoken_of e)

-- a line of the program
abbrev pub AstLine : Type 0
AstLine = Numbered Saying

-- the pure form of a line
abbrev pub declared_by : AstLine → Declared AstSaying
declared_by = judged_by saying_seen

-- a type of the program, by names
abbrev pub row_seen : TypeRow → Row
row_seen row = record { name = row.name.now; family = row.family.now; base = row.base; items = map item_seen row.items.items }
