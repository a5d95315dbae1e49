-- What a header says, as the program holds it.
use Rattle.db_builder.specs.declared.headers.FileFacts.{FileFacts}
use Rattle.db_builder.specs.Header.{Said}

abbrev pub said : FileFacts → Said
said facts = record {
  size = facts.size;
  pages = facts.pages;
  user_version = facts.user_version;
  application_id = facts.application_id;
}
