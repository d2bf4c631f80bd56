-- What contracts see of the fields of an `Item`.
use Rattle.oai_item.specs.Item.{ItemState}
use Rattle.oai_item.specs.declared.items.Item.TheInside.{Inside}

-- its five parts
abbrev pub item_of_inside : Inside → ItemState
item_of_inside item = record {
  identifier = item.identifier;
  stamp = item.stamp;
  live = item.live;
  sets = item.sets;
  formats = item.formats;
}
