mod Stocking
