-- The tables of schema 1, each at its place with its tree.
use Rattle.std.proofs.Common.{drop, refl}
use Rattle.store_sql.specs.Schema.{meta_table, users_table, auth_keys_table, pending_table, machines_table, extras_table, policy_table}
use Rattle.std.proofs.Common.{codes}
use Rattle.store_sql.proofs.Puts.{IsTableAt}

pub meta_place : IsTableAt 0 0 (drop 1 meta_table.columns)
meta_place = record { name = meta_table.name; key_name = codes "k"; uniques = meta_table.uniques; orders = meta_table.orders; is = refl }

pub users_place : IsTableAt 1 1 (drop 1 users_table.columns)
users_place = record { name = users_table.name; key_name = codes "id"; uniques = users_table.uniques; orders = users_table.orders; is = refl }

pub auth_keys_place : IsTableAt 2 3 (drop 1 auth_keys_table.columns)
auth_keys_place = record { name = auth_keys_table.name; key_name = codes "id"; uniques = auth_keys_table.uniques; orders = auth_keys_table.orders; is = refl }

pub pending_place : IsTableAt 3 5 (drop 1 pending_table.columns)
pending_place = record { name = pending_table.name; key_name = codes "id"; uniques = pending_table.uniques; orders = pending_table.orders; is = refl }

pub machines_place : IsTableAt 4 8 (drop 1 machines_table.columns)
machines_place = record { name = machines_table.name; key_name = codes "id"; uniques = machines_table.uniques; orders = machines_table.orders; is = refl }

pub extras_place : IsTableAt 5 14 (drop 1 extras_table.columns)
extras_place = record { name = extras_table.name; key_name = codes "place"; uniques = extras_table.uniques; orders = extras_table.orders; is = refl }

pub policy_place : IsTableAt 6 15 (drop 1 policy_table.columns)
policy_place = record { name = policy_table.name; key_name = codes "k"; uniques = policy_table.uniques; orders = policy_table.orders; is = refl }
