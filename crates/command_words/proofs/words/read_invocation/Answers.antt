use Rattle.std.proofs.Common.{Global, ◌∷◌, ap, string_bytes, sym, ◌∙◌}
use Rattle.std.proofs.lemmas.Result.{IfOk-weaker}
use Rattle.command_words.proofs.WordsLemmas.{asked_for_words, exact_parser, first_word}
use Rattle.command_words.proofs.words.read_invocation.Goals as goal

pub asked_in-requires : goal.asked_in-requires
asked_in-requires c = record {
  simple = exact_parser c.as_str.result.now c.table_line.result _ _ c.table_line.ensures.value c.in-Some.is (c.in_ok-parser_of-in-Some.ensures).app;
}

pub returns-in_ok-parser_of-in-Some : goal.returns-in_ok-parser_of-in-Some
returns-in_ok-parser_of-in-Some c =
    let texts = first_word (string_bytes {Z = Global}) c.args.words.now c.name-item.result c.in-len1-up.len_at_least c.name-item.is in
    let begins = texts.1 ∙ ap (λ t. t ∷ texts.0) (sym c.as_str.ensures.value) in
    record {
      value = IfOk-weaker c.asked_in.result _ _
          (λ asked e. asked_for_words _ c.as_str.result.now texts.0 c.table_line.result _ _ asked begins c.table_line.ensures.value c.in-Some.is
          (c.in_ok-parser_of-in-Some.ensures).app e)
          c.asked_in.ensures.value;
      machine = c.asked_in.ensures.machine;
    }
