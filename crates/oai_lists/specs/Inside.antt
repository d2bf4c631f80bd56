-- What contracts see of the fields of `Lists`.
use Rattle.oai_lists.specs.OpenLists.{Table}
use Rattle.oai_lists.specs.declared.lists.Lists.TheInside.{Inside}

-- how many may be open, the next number, and the lists that are held
abbrev pub table_in : Inside → Table
table_in lists = record { limit = lists.limit; next = lists.next; lists = lists.lists.items }
