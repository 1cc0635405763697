use Rattle.std.proofs.Common.{string_bytes, ap, map, sym, ◌∙◌, rules}
use Rattle.ck_tool.proofs.ThreeWords.{three_texts}
use Rattle.ck_tool.proofs.words.command_of.Goals as goal

pub returns-then-is_file_name-2 : goal.returns-then-is_file_name-2
returns-then-is_file_name-2 c = record {
  words_are = ap (map string_bytes) (sym c.as_slice.ensures.value)
      ∙ three_texts string_bytes _ _ _ _ _ _ _ c.in-len3.len_at_least c.in-len3.len_below c.command-item.is c.spec-item.is
      c.source-item.is (search rules) (search rules) (search rules);
  is_spec = search rules;
  is_source = search rules;
}
