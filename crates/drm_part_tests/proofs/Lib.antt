mod KeysOfMasters
